-- The laws of nodes, of an operator.
use Rattle.std.proofs.Common.{◌≡◌, ◌⊎◌, ◌+◌, zero, suc, ℕ, List, [], ◌∷◌, ◌++◌, map, inl, inr, refl, sym, ap, subst, ◌∙◌, arith}
use Rattle.std.specs.Prelude.{Some, Contains, slice_get}
use Rattle.std.specs.Option.{option_map}
use Rattle.std.specs.FinMap.{get, get-empty}
use Rattle.std.specs.Ordering.{nat_cmp}
use Rattle.std.specs.List.{flat_map}
use Rattle.std.proofs.lemmas.List.Elements.{Contains-append_cases, Contains-append_left, Contains-append_right}
use Rattle.tables.proofs.Elements.{in_none, in_front, in_single}
use Rattle.tables.proofs.Options.{not_both}
use Rattle.ocpi_text.specs.Text.{key}
use Rattle.ocpi_types.specs.Stored.{body_of_push}
use Rattle.ocpi_types.specs.declared.packet.Packet.{Packet}
use Rattle.ocpi_types.specs.declared.packet.Body.{Body}
use Rattle.ocpi_types.specs.declared.packet.Body.TheVariants as body
use Rattle.ocpi_types.specs.declared.site.SiteLine.{SiteLine}
use Rattle.ocpi_types.specs.declared.stored.Push.{Push}
use Rattle.ocpi_types.specs.declared.stored.Push.TheVariants as push
use Rattle.node_laws.specs.Nodes.{Node, Request, AreAboutSame, AreGiven, IsSettled, Acknowledged, Replaced, Responded, Resulted, Sessions, Tokens, exchanged, request_of}
use Rattle.node_laws.specs.Laws as nodes
use Rattle.node_laws.proofs.BodyKinds.{command_or_push}
use Rattle.node_laws.proofs.NodeRuns as laws
use Rattle.node_laws.proofs.Lists.{in_joined}
use Rattle.operator_rows.specs.State.{State, opening}
use Rattle.operator_rows.proofs.KeepingTimes.{opening_consistent}
use Rattle.operator_rows.proofs.RowChanges.{in_later, of_cons}
use Rattle.operator_steps.specs.Events.{Arrives, Credits, Event, Input, Reopens, Reports, Restarts, Serves, Ticks}
use Rattle.operator_laws.specs.AsNode.{AreAmong, node, wide, came_in, exchange, pushed_request, RunsAreNodeRuns, PacketsAreAddressed, PushesWereSent}
use Rattle.operator_laws.specs.Laws.{Acknowledged as WasAcknowledged, Came, IsOfParty, IsPushed, IsResultOrRecord, Numbered, PushesStand, RequestsAgree, Run, SentRepliesAreKept, providers_in, sent, setup_of, setups_in}
use Rattle.operator_laws.proofs.events.Doing.{IsUnder, Same, Other, does}
use Rattle.operator_laws.proofs.events.Standing.{consistent_stays}
pub use Rattle.operator_laws.proofs.nodes.NodeSteps.{shown}
use Rattle.operator_laws.proofs.nodes.NodeSteps.{counts, steps_are_node_steps}

-- whatever setup an event leaves, its providers are among them
still_among : (ps : List (List ℕ)) (s u : State) (e : Event) → AreAmong s.providers ps → ((line : SiteLine) → Contains (setup_of e.input) line → AreAmong line.parties.providers ps) → IsUnder s e.input u → AreAmong u.providers ps
still_among ps s u e among setups (Same site is) = subst (λ l. AreAmong l ps) (sym is) among
still_among ps s u e among setups (Other line now site is) =
    subst (λ l. AreAmong l ps) (sym is) (setups line (subst (λ i. Contains (setup_of i) line) (sym now) (in_front line [])))

pub runs_are_node_runs : RunsAreNodeRuns
runs_are_node_runs ps s t [] among setups fine run = ap (λ (z : State). node (wide ps z)) run
runs_are_node_runs ps s t (e ∷ es) among setups fine (u, first, rest) = (
  node (wide ps u),
  steps_are_node_steps ps s u e among fine first,
  runs_are_node_runs ps u t es (still_among ps s u e among (λ line i. setups line (Contains-append_left (setup_of e.input) (setups_in es) line i)) (does s u e first).under)
      (λ line i. setups line (Contains-append_right (setup_of e.input) (setups_in es) line i)) (consistent_stays s u e first fine) rest,
)

same_sent : (es : List Event) → nodes.sent (map exchange es) ≡ sent es
same_sent [] = refl
same_sent (e ∷ es) = ap (λ l. e.packets ++ l) (same_sent es)

pub is_sent : (es : List Event) (x : Packet) → Contains (sent es) x → Contains (nodes.sent (map exchange es)) x
is_sent es x h = subst (λ l. Contains l x) (sym (same_sent es)) h

none_stand : (ps : List (List ℕ)) (line : SiteLine) (n : ℕ) (r : Request) → (node (wide ps (opening line))).standing n ≡ Some r → ⊥
none_stand ps line n r has = let (o, stands, is) = shown _ r has in not_both o _ (get-empty nat_cmp n) stands

pub all_given : (ps : List (List ℕ)) (line : SiteLine) → AreGiven (node (wide ps (opening line)))
all_given ps line n r has = absurd (none_stand ps line n r has)

-- the providers of one setup are among those of all
pub in_flat : (ls : List SiteLine) (l : SiteLine) (x : List ℕ) → Contains ls l → Contains l.parties.providers x → Contains (flat_map (λ (l : SiteLine). l.parties.providers) ls) x
in_flat [] l x i j = absurd (in_none l i)
in_flat (k ∷ ls) l x i j = elim (of_cons k ls l i) [
  | inl same ↦ Contains-append_left k.parties.providers (flat_map (λ (l : SiteLine). l.parties.providers) ls) x (subst (λ (z : SiteLine). Contains z.parties.providers x) (sym same) j)
  | inr later ↦ Contains-append_right k.parties.providers (flat_map (λ (l : SiteLine). l.parties.providers) ls) x (in_flat ls l x later j)
]

pub placed : {X : Type 0} (xs : List X) (x : X) → Contains xs x → (k : ℕ) × (slice_get xs k ≡ Some x)
placed [] x h = absurd (in_none x h)
placed (y ∷ xs) x h = elim (of_cons y xs x h) [
  | inl same ↦ (zero, ap Some same)
  | inr later ↦ let r = placed xs x later in (suc r.0, r.1)
]

-- what came in a run
pub of_input : (i : Input) (q : Packet) → Contains (came_in i) q → (at : ℕ) × (i ≡ Arrives at q)
of_input (Arrives at y) q h = (at, ap (Arrives at) (in_single y q h))
of_input (Serves evse in_service) q h = absurd (in_none q h)
of_input (Reports at report) q h = absurd (in_none q h)
of_input (Credits at session) q h = absurd (in_none q h)
of_input (Ticks at) q h = absurd (in_none q h)
of_input Restarts q h = absurd (in_none q h)
of_input (Reopens line) q h = absurd (in_none q h)

pub came_of : (es : List Event) (q : Packet) → Contains (exchanged (map exchange es)).came q → Came es q
came_of [] q h = absurd (in_none q h)
came_of (e ∷ es) q h = elim (Contains-append_cases (came_in e.input) (exchanged (map exchange es)).came q h) [
  | inl here ↦ (e, in_front e es, of_input e.input q here)
  | inr there ↦ let later = came_of es q there in (later.0, in_later e es later.0 later.1, later.2)
]

-- what is the newest state of nothing is replaced by nothing, and is no command
plain_push : (b : Body) → IsResultOrRecord b → (p : Push) × (b ≡ body_of_push p)
plain_push b (inl (a, is)) = (push.CommandResult a, is)
plain_push b (inr (c, is)) = (push.PostCdr c, is)

unreplaced : (r q : Request) → IsResultOrRecord r.body → AreAboutSame r q → ⊥
unreplaced r q (inl (a, is)) (Sessions x y e f g h) = let bad : body.CommandResult a ≡ body.PutSession x = sym is ∙ e in cc
unreplaced r q (inl (a, is)) (Tokens x y e f g h i j) = let bad : body.CommandResult a ≡ body.PutToken x = sym is ∙ e in cc
unreplaced r q (inr (c, is)) (Sessions x y e f g h) = let bad : body.PostCdr c ≡ body.PutSession x = sym is ∙ e in cc
unreplaced r q (inr (c, is)) (Tokens x y e f g h i j) = let bad : body.PostCdr c ≡ body.PutToken x = sym is ∙ e in cc

module _ (line : SiteLine) (es : List Event) (t : State) (own : IsOfParty line) (run : Run (opening line) es t) where
  -- all providers that it was ever set up with
  abbrev pub ps : List (List ℕ)
  ps = providers_in line es

  abbrev pub before : Node
  before = node (wide ps (opening line))

  abbrev pub after : Node
  after = node (wide ps t)

  abbrev pub as_run : nodes.NodeRun before (map exchange es) after
  as_run = runs_are_node_runs ps (opening line) t es (λ x i. Contains-append_left line.parties.providers (flat_map (λ (l : SiteLine). l.parties.providers) (setups_in es)) x i)
      (λ l i x j. Contains-append_right line.parties.providers (flat_map (λ (l : SiteLine). l.parties.providers) (setups_in es)) x (in_flat (setups_in es) l x i j)) (opening_consistent line own) run

  addressed : (x : Packet) → Contains (sent es) x → (x.from ≡ line.parties.operator) × Contains (providers_in line es) x.to
  addressed x h =
      let step = laws.runs_are_steps before after (map exchange es) as_run in
      let place = placed (nodes.sent (map exchange es)) x (is_sent es x h) in
      ((step.counts.each place.0 x place.1).from, (step.asks (all_given ps line)).to_peer x (is_sent es x h))

  standing_or_settled : (x : Packet) → Contains (sent es) x → IsResultOrRecord x.body → IsPushed t x.request x.to x.body ⊎ WasAcknowledged es x.to x.request
  standing_or_settled x h is = elim (laws.requests_stand before after (map exchange es) as_run (all_given ps line) x (is_sent es x h) (inr (plain_push x.body is))) [
    | inl (r, stands, carries) ↦ let (o, has, same) = shown (get t.rows.pushes x.request) r stands in inl (o, has, ap (λ (r : Request). key r.to) same ∙ sym carries.to, ap (λ (r : Request). r.body) same ∙ sym carries.body)
    | inr settled ↦ inr (by settled)
  ]
    where
      pushed_body : (p : Push) × (x.body ≡ body_of_push p)
      pushed_body = plain_push x.body is

      by : IsSettled (exchanged (map exchange es)) x.request (request_of x) → WasAcknowledged es x.to x.request
      by (Acknowledged q came ack is_ack done from number) = (q, came_of es q came, (ack, is_ack, done), from, number)
      by (Replaced y was_sent above same) = absurd (unreplaced (request_of x) (request_of y) is same)
      by (Responded c carried q came w is_response from number) = absurd (command_or_push c pushed_body.0 (sym carried ∙ pushed_body.1))
      by (Resulted c carried q came w is_result from url) = absurd (command_or_push c pushed_body.0 (sym carried ∙ pushed_body.1))

pub packets_are_addressed : PacketsAreAddressed
packets_are_addressed line es t own run x h = addressed line es t own run x h

pub pushes_were_sent : PushesWereSent
pushes_were_sent line es t own run n o has =
    elim (laws.requests_were_sent (before line es t own run) (after line es t own run) (map exchange es) (as_run line es t own run) (all_given (providers_in line es) line) n (pushed_request o) (ap (option_map pushed_request) has)) [
      | inl old ↦ absurd (none_stand (providers_in line es) line n (pushed_request o) old)
      | inr m ↦ (m.packet, subst (λ l. Contains l m.packet) (same_sent es) m.was_sent, m.number, ap (λ (r : Request). r.to) m.request, ap (λ (r : Request). r.body) m.request)
    ]

-- the packets of a run are numbered on from its first state
numbered_on : (es : List Event) (s t : State) → Run s es t → (i : ℕ) (x : Packet) → slice_get (sent es) i ≡ Some x → x.serial ≡ s.rows.serial + (i + 1)
numbered_on [] s t run i x at = cc
numbered_on (e ∷ es) s t (u, first, rest) i x at =
    let d = does s u e first in
    let counts = counts s u e d [] in
    elim (in_joined e.packets (sent es) i x at) [
      | inl here ↦ (counts.each i x here).serial
      | inr (j, is, there) ↦ let later = numbered_on es u t rest j x there in let more = counts.serial in omega (arith, later, is, more)
    ]

pub numbered : Numbered
numbered line es t run i x at = let is = numbered_on es (opening line) t run i x at in omega (arith, is)

pub sent_replies_are_kept : SentRepliesAreKept
sent_replies_are_kept line es t own run x r h is = laws.sent_replies_are_kept (before line es t own run) (after line es t own run) (map exchange es) (as_run line es t own run) x r (is_sent es x h) is

pub requests_agree : RequestsAgree
requests_agree line es t own run x y i j x_apart y_apart same =
    let one = laws.requests_agree (before line es t own run) (after line es t own run) (map exchange es) (as_run line es t own run) (all_given (providers_in line es) line) x y (is_sent es x i) (is_sent es y j) x_apart y_apart same in
    (one.body, one.to)

pub pushes_stand : PushesStand
pushes_stand line es t own run x h is = standing_or_settled line es t own run x h is
