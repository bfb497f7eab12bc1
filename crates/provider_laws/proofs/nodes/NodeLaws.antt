-- The laws of nodes, of a provider.
use Rattle.std.proofs.Common.{◌≡◌, zero, suc, ℕ, List, [], ◌∷◌, ◌++◌, map, inl, inr, refl, sym, ap, subst, ◌∙◌, arith}
use Rattle.std.specs.Prelude.{Some, None, Contains, slice_get}
use Rattle.std.specs.FinMap.{get-empty}
use Rattle.std.specs.Ordering.{nat_cmp}
use Rattle.std.specs.List.{flat_map}
use Rattle.std.proofs.lemmas.List.Elements.{Contains-append_cases, Contains-append_left, Contains-append_right}
use Rattle.tables.proofs.Elements.{in_front, in_none, in_single}
use Rattle.tables.proofs.Options.{none_some, not_both}
use Rattle.ocpi_types.specs.declared.packet.Packet.{Packet}
use Rattle.node_laws.specs.Nodes.{AreGiven, Node}
use Rattle.node_laws.specs.Laws as nodes
use Rattle.node_laws.proofs.NodeRuns as laws
use Rattle.provider_rows.specs.State.{Peering, State, opening}
use Rattle.provider_steps.specs.Events.{Event}
use Rattle.provider_laws.specs.AsNode.{AreAmong, RunsAreNodeRuns, exchange, node, standing_in, standing_of, wide}
use Rattle.provider_laws.specs.Laws.{Numbered, PacketsAreAddressed, RequestsAgree, Run, SentRepliesAreKept, operators_in, peering_of, peerings_in, sent}
use Rattle.provider_laws.proofs.events.Doing.{IsAmong, Same, Other, is_among}
use Rattle.provider_laws.proofs.nodes.LineSteps.{AreWell, well_of}
use Rattle.provider_laws.proofs.nodes.NodeSteps.{step_from, well_stays}

-- whatever peers an event leaves are among them
still_among : (ps : List (List ℕ)) (s u : State) (e : Event) → AreAmong s.operators ps → ((p : Peering) → Contains (peering_of e.input) p → AreAmong p.operators ps) → IsAmong s e.input u → AreAmong u.operators ps
still_among ps s u e peers more (Same is) = subst (λ l. AreAmong l ps) (sym is) peers
still_among ps s u e peers more (Other p now is) = subst (λ l. AreAmong l ps) (sym is) (more p (subst (λ i. Contains (peering_of i) p) (sym now) (in_front p [])))

pub run_from : (ps : List (List ℕ)) (s t : State) (es : List Event) → AreAmong s.operators ps → ((p : Peering) → Contains (peerings_in es) p → AreAmong p.operators ps) → AreWell s.rows.outbox → Run s es t →
    nodes.NodeRun (node (wide ps s)) (map exchange es) (node (wide ps t))
run_from ps s t [] peers more well run = ap (λ (z : State). node (wide ps z)) run
run_from ps s t (e ∷ es) peers more well (u, first, rest) = (
  node (wide ps u),
  step_from ps s u e peers well first,
  run_from ps u t es (still_among ps s u e peers (λ p i. more p (Contains-append_left (peering_of e.input) (peerings_in es) p i)) (is_among s u e first))
      (λ p i. more p (Contains-append_right (peering_of e.input) (peerings_in es) p i)) (well_stays s u e first well) rest,
)

pub runs_are_node_runs : RunsAreNodeRuns
runs_are_node_runs ps s t es peers more fine run = run_from ps s t es peers more (well_of s fine) run

pub well_first : (p : Peering) → AreWell (opening p).rows.outbox
well_first p = record {
  commands = λ n c has. not_both c _ (get-empty nat_cmp n) has;
  pushes = λ n o has. not_both o _ (get-empty nat_cmp n) has;
  apart = λ n o has. get-empty nat_cmp n;
}

same_sent : (es : List Event) → nodes.sent (map exchange es) ≡ sent es
same_sent [] = refl
same_sent (e ∷ es) = ap (λ l. e.packets ++ l) (same_sent es)

is_sent : (es : List Event) (x : Packet) → Contains (sent es) x → Contains (nodes.sent (map exchange es)) x
is_sent es x h = subst (λ l. Contains l x) (sym (same_sent es)) h

all_given : (ps : List (List ℕ)) (p : Peering) → AreGiven (node (wide ps (opening p)))
all_given ps p n r has =
    let none : standing_in (opening p).rows.outbox n ≡ None = λ i. standing_of (get-empty nat_cmp n i) (get-empty nat_cmp n i) in
    none_some r (sym none ∙ has)

-- the operators of one setup are among those of all
pub in_flat : (ls : List Peering) (l : Peering) (x : List ℕ) → Contains ls l → Contains l.operators x → Contains (flat_map (λ (l : Peering). l.operators) ls) x
in_flat [] l x i j = absurd (in_none l i)
in_flat (k ∷ ls) l x i j = elim (Contains-append_cases (k ∷ []) ls l i) [
  | inl here ↦ Contains-append_left k.operators (flat_map (λ (l : Peering). l.operators) ls) x (subst (λ (z : Peering). Contains z.operators x) (sym (in_single k l here)) j)
  | inr later ↦ Contains-append_right k.operators (flat_map (λ (l : Peering). l.operators) ls) x (in_flat ls l x later j)
]

placed : {X : Type 0} (xs : List X) (x : X) → Contains xs x → (k : ℕ) × (slice_get xs k ≡ Some x)
placed [] x h = absurd (in_none x h)
placed (y ∷ xs) x h = elim (Contains-append_cases (y ∷ []) xs x h) [
  | inl here ↦ (zero, ap Some (in_single y x here))
  | inr later ↦ let r = placed xs x later in (suc r.0, r.1)
]

module _ (p : Peering) (es : List Event) (t : State) (run : Run (opening p) es t) where
  -- all operators that it ever dealt with
  abbrev ps : List (List ℕ)
  ps = operators_in p es

  abbrev pub before : Node
  before = node (wide ps (opening p))

  abbrev pub after : Node
  after = node (wide ps t)

  abbrev pub as_run : nodes.NodeRun before (map exchange es) after
  as_run = run_from ps (opening p) t es (λ x i. Contains-append_left p.operators (flat_map (λ (l : Peering). l.operators) (peerings_in es)) x i)
      (λ l i x j. Contains-append_right p.operators (flat_map (λ (l : Peering). l.operators) (peerings_in es)) x (in_flat (peerings_in es) l x i j)) (well_first p) run

  addressed : (x : Packet) → Contains (sent es) x → (x.from ≡ p.provider) × Contains (operators_in p es) x.to
  addressed x h =
      let step = laws.runs_are_steps before after (map exchange es) as_run in
      let place = placed (nodes.sent (map exchange es)) x (is_sent es x h) in
      ((step.counts.each place.0 x place.1).from, (step.asks (all_given ps p)).to_peer x (is_sent es x h))

pub packets_are_addressed : PacketsAreAddressed
packets_are_addressed p es t run x h = addressed p es t run x h

pub numbered : Numbered
numbered p es t run i x at =
    let all = laws.numbered (before p es t run) (after p es t run) (map exchange es) (as_run p es t run) in
    let is = (all.1 i x (subst (λ l. slice_get l i ≡ Some x) (sym (same_sent es)) at)).serial in
    omega (arith, is)

pub sent_replies_are_kept : SentRepliesAreKept
sent_replies_are_kept p es t run x r h is = laws.sent_replies_are_kept (before p es t run) (after p es t run) (map exchange es) (as_run p es t run) x r (is_sent es x h) is

pub requests_agree : RequestsAgree
requests_agree p es t run x y i j x_apart y_apart same =
    let one = laws.requests_agree (before p es t run) (after p es t run) (map exchange es) (as_run p es t run) (all_given (operators_in p es) p) x y (is_sent es x i) (is_sent es y j) x_apart y_apart same in
    (one.body, one.to)
