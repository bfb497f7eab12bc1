-- What a provider does leaves it one that can be made again of its rows.
use Rattle.std.proofs.Common.{◌≡◌, ℕ, ◌+◌, List, [], ◌∷◌, ◌++◌, inl, inr, refl, sym, ap, subst, ◌∙◌, cond, nat_eq, true, false}
use Rattle.std.specs.Prelude.{Option, Some, None, Contains, ⊤}
use Rattle.std.specs.FinMap.{get, insert, get-empty}
use Rattle.std.proofs.lemmas.List.Elements.{Contains-append_cases}
use Rattle.tables.specs.Keys.{text_pair_total, text_pair_exact}
use Rattle.tables.proofs.Elements.{in_none, in_single}
use Rattle.tables.proofs.Maps.{of_insert, of_remove}
use Rattle.tables.proofs.Options.{not_both}
use Rattle.ocpi_text.specs.Text.{key}
use Rattle.ocpi_text.specs.declared.own_ids.OwnIdKind.TheVariants.{AuthorizationReference}
use Rattle.ocpi_types.specs.declared.cdrs.Cdr.{Cdr}
use Rattle.ocpi_types.specs.declared.packet.Packet.{Packet}
use Rattle.ocpi_types.specs.declared.rows.Change.{Change}
use Rattle.ocpi_types.specs.declared.rows.Change.TheVariants.{Put, Drop}
use Rattle.ocpi_types.specs.declared.rows.Counter.{Counter}
use Rattle.ocpi_types.specs.declared.rows.Counter.TheVariants as counter
use Rattle.ocpi_types.specs.declared.rows.Row.TheVariants as row
use Rattle.ocpi_types.specs.declared.rows.RowKey.TheVariants as keys
use Rattle.ocpi_types.specs.declared.sessions.Session.{Session}
use Rattle.ocpi_types.specs.declared.commands.Command.{Command}
use Rattle.ocpi_types.specs.declared.stored.Push.{Push}
use Rattle.ocpi_types.specs.declared.stored.Push.TheVariants as push
use Rattle.ocpi_types.specs.declared.stored.Reply.{Reply}
use Rattle.ocpi_types.specs.declared.stored.SentCommand.{SentCommand}
use Rattle.ocpi_types.specs.declared.token.Token.{Token}
use Rattle.ocpi_types.specs.declared.events.Order.{Order}
use Rattle.token_desk.proofs.Keyed.{keyed_empty, keyed_insert, keyed_remove}
use Rattle.handover.specs.Cdrs.{AreOwnCdrs, Cdrs, HasOnePerSession, cdr_key}
use Rattle.handover.specs.Inbox.{Sessions, session_key}
use Rattle.handover.proofs.Holding.{own_none, own_put, own_remove}
use Rattle.outbox.specs.Outbox.{OutboxRows}
use Rattle.outbox.specs.declared.push_book.Outgoing.{Outgoing}
use Rattle.node_steps.specs.Acts.{Act, all_changes, all_requests, commanded, in_turn, pushed}
use Rattle.node_steps.specs.Drafts.{Counters, count_change, count_changes, counted}
use Rattle.node_steps.proofs.Gathering.{changes_append}
use Rattle.provider_rows.specs.Rows.{AreKeyed, HasRow}
use Rattle.provider_rows.specs.Sound.{IsConsistent}
use Rattle.provider_rows.specs.State.{ArePeers, Peering, Rows, State, opening}
use Rattle.provider_rows.specs.Steps.{MayFollow, after}
use Rattle.provider_rows.specs.Stored.{changed, changed_all}
use Rattle.provider_rows.proofs.KeepingTimes.{follow_consistent, opening_consistent, reopened_consistent, restarted_consistent}
use Rattle.provider_rows.proofs.RowChanges.{row_changes}
use Rattle.provider_steps.specs.declared.pushing.Pushing.{Pushing}
use Rattle.provider_steps.specs.Acts.{replaced, token_acts}
use Rattle.provider_steps.specs.Events.{Arrives, Asks, Done, Event, Gives, Happens, Input, Refused, Reopened, Reopens, Restarted, Restarts, Submits, Ticks}
use Rattle.provider_steps.specs.Moves.{AreInRange, Out, counters_of, step_of_acts}
use Rattle.provider_steps.specs.Orders.{Makes, next_reference, next_request}
use Rattle.provider_steps.specs.Orders as orders
use Rattle.provider_steps.specs.Packets.{Answers, PacketLine}
use Rattle.provider_steps.specs.Packets as lines
use Rattle.provider_steps.specs.Tick.{all_resent, resent_acts}
use Rattle.provider_steps.proofs.OrderSteps as order_steps
use Rattle.provider_steps.proofs.PacketSteps as packet_steps
use Rattle.provider_steps.proofs.TickSteps as tick_steps
use Rattle.provider_steps.proofs.TokenSteps as token_steps
use Rattle.provider_laws.specs.Held.{cdrs_put}
use Rattle.provider_laws.specs.References.{Carries, InCommand}
use Rattle.provider_laws.proofs.events.Doing.{does, same_party}
use Rattle.provider_laws.proofs.events.Parts.{CdrTaken, CdrsMove, Given, ReferencesMove, SameCdrs, SameReferences, SameSessions, SessionTaken, SessionsMove}
use Rattle.provider_laws.proofs.held.Cdrs.{new_key}
use Rattle.provider_stored.specs.Whole.{IsWhole}
use Rattle.provider_stored.proofs.Fit.{one_per_session}
use Rattle.provider_stored.proofs.Made.{made_of_none}
use Rattle.stored_rows.specs.Given.{IsOwnId}
use Rattle.world_steps.specs.Steps.{ProviderDoes}
use Rattle.world_steps.specs.Steps as steps

-- ---- each token, session and charge detail record stands under its own key, whatever changes

cdrs_put_own : (m : Cdrs) (x : Cdr) → AreOwnCdrs m → AreOwnCdrs (insert m (cdr_key x) x)
cdrs_put_own m x own k y has = elim (of_insert text_pair_total text_pair_exact m (cdr_key x) x k y has) [
  | inl new ↦ new.0 ∙ ap cdr_key new.1
  | inr stood ↦ own k y stood
]

module _ (r : Rows) (h : AreKeyed r) where
  still : AreKeyed r
  still = record { tokens = h.tokens; inbox = h.inbox }

  keyed_count : (c : Counter) (n : ℕ) → AreKeyed (changed (Put (row.Count c n)) r)
  keyed_count counter.Serial n = record { tokens = h.tokens; inbox = h.inbox }
  keyed_count counter.Request n = record { tokens = h.tokens; inbox = h.inbox }
  keyed_count counter.Reference n = record { tokens = h.tokens; inbox = h.inbox }
  keyed_count counter.Session n = still
  keyed_count counter.Cdr n = still

  keyed_change : (c : Change) → AreKeyed (changed c r)
  keyed_change (Put (row.Count c n)) = keyed_count c n
  keyed_change (Put (row.Token t)) = record { tokens = keyed_insert r.desk.tokens t h.tokens; inbox = h.inbox }
  keyed_change (Put (row.Session x)) = record {
    tokens = h.tokens;
    inbox = record { of_sessions = own_put r.inbox.sessions h.inbox.of_sessions (session_key x) x refl; of_cdrs = h.inbox.of_cdrs };
  }
  keyed_change (Put (row.Cdr x)) = record {
    tokens = h.tokens;
    inbox = record { of_sessions = h.inbox.of_sessions; of_cdrs = cdrs_put_own r.inbox.cdrs x h.inbox.of_cdrs };
  }
  keyed_change (Put (row.Reply sender n reply)) = record { tokens = h.tokens; inbox = h.inbox }
  keyed_change (Put (row.Push n to o)) = record { tokens = h.tokens; inbox = h.inbox }
  keyed_change (Put (row.Command n c)) = record { tokens = h.tokens; inbox = h.inbox }
  keyed_change (Put (row.Service evse)) = still
  keyed_change (Put (row.Spent p reference)) = still
  keyed_change (Put (row.Mark p id n)) = still
  keyed_change (Put (row.Reservation p id z)) = still
  keyed_change (Put (row.Pending p n o)) = still
  keyed_change (Put (row.Result p n x)) = still
  keyed_change (Drop (keys.Count c)) = keyed_count c 0
  keyed_change (Drop (keys.Token p type uid)) = record { tokens = keyed_remove r.desk.tokens ((type, uid), p) h.tokens; inbox = h.inbox }
  keyed_change (Drop (keys.Session p id)) = record {
    tokens = h.tokens;
    inbox = record { of_sessions = own_remove r.inbox.sessions h.inbox.of_sessions (p, id); of_cdrs = h.inbox.of_cdrs };
  }
  keyed_change (Drop (keys.Cdr p id)) = record {
    tokens = h.tokens;
    inbox = record {
      of_sessions = h.inbox.of_sessions;
      of_cdrs = λ k y has. h.inbox.of_cdrs k y (of_remove text_pair_total text_pair_exact r.inbox.cdrs (p, id) k y has).1;
    };
  }
  keyed_change (Drop (keys.Reply sender n)) = record { tokens = h.tokens; inbox = h.inbox }
  keyed_change (Drop (keys.Push n)) = record { tokens = h.tokens; inbox = h.inbox }
  keyed_change (Drop (keys.Command n)) = record { tokens = h.tokens; inbox = h.inbox }
  keyed_change (Drop (keys.Service evse)) = still
  keyed_change (Drop (keys.Spent p reference)) = still
  keyed_change (Drop (keys.Mark p id)) = still
  keyed_change (Drop (keys.Reservation p id)) = still
  keyed_change (Drop (keys.Pending p n)) = still
  keyed_change (Drop (keys.Result p n)) = still

keyed_changes : (cs : List Change) (r : Rows) → AreKeyed r → AreKeyed (changed_all cs r)
keyed_changes [] r h = h
keyed_changes (c ∷ cs) r h = keyed_changes cs (changed c r) (keyed_change r h c)

-- ---- each token that is put is of the provider's own

abbrev IsOwnPut : List ℕ → Change → Type 0
IsOwnPut party (Put (row.Token t)) = key t.party ≡ key party
IsOwnPut party (Put r) = ⊤
IsOwnPut party (Drop k) = ⊤

abbrev AreOwnPuts : List ℕ → List Change → Type 0
AreOwnPuts party [] = ⊤
AreOwnPuts party (c ∷ cs) = IsOwnPut party c × AreOwnPuts party cs

module _ (party : List ℕ) where
  own_append : (xs ys : List Change) → AreOwnPuts party xs → AreOwnPuts party ys → AreOwnPuts party (xs ++ ys)
  own_append [] ys h g = g
  own_append (x ∷ xs) ys h g = (h.0, own_append xs ys h.1 g)

  own_in : (cs : List Change) → AreOwnPuts party cs → (t : Token) → Contains cs (Put (row.Token t)) → key t.party ≡ key party
  own_in [] h t i = absurd (in_none (Put (row.Token t)) i)
  own_in (c ∷ cs) h t i = elim (Contains-append_cases (c ∷ []) cs (Put (row.Token t)) i) [
    | inl here ↦ subst (IsOwnPut party) (in_single c (Put (row.Token t)) here) h.0
    | inr later ↦ own_in cs h.1 t later
  ]

  count_owns : (c : Counter) (last now : ℕ) → AreOwnPuts party (count_change c last now)
  count_owns c last now = elim (nat_eq last now) as (λ b. AreOwnPuts party (cond b [] (Put (row.Count c now) ∷ []))) [ true ↦ tt | false ↦ (tt, tt) ]

  counts_own : (now then : Counters) → AreOwnPuts party (count_changes now then)
  counts_own now then =
      own_append (count_change counter.Serial now.serial then.serial) (count_change counter.Request now.request then.request)
      (count_owns counter.Serial now.serial then.serial) (count_owns counter.Request now.request then.request)

  abbrev OwnActs : List Act → Type 0
  OwnActs acts = AreOwnPuts party (all_changes acts)

  acts_append : (xs ys : List Act) → OwnActs xs → OwnActs ys → OwnActs (xs ++ ys)
  acts_append xs ys h g = subst (AreOwnPuts party) (sym (changes_append xs ys)) (own_append (all_changes xs) (all_changes ys) h g)

  -- a token that is pushed, and what is sent again
  pushed_own : (at n : ℕ) (to : List ℕ) (x : Push) (o : Option ℕ) → OwnActs (replaced o ++ (pushed at n to x ∷ []))
  pushed_own at n to x None = (tt, tt)
  pushed_own at n to x (Some m) = (tt, (tt, tt))

  tokens_own : (at : ℕ) (v : Token) (last : ℕ) (ps : List Pushing) → OwnActs (in_turn (token_acts at v) last ps)
  tokens_own at v last [] = tt
  tokens_own at v last (p ∷ ps) =
      let first : List Act = token_acts at v last p in
      let rest : List Act = in_turn (token_acts at v) (last + all_requests first) ps in
      acts_append first rest (pushed_own at (last + 1) p.to (push.PutToken v) p.replaced) (tokens_own at v (last + all_requests first) ps)

  again_own : (operators : List (List ℕ)) (at n : ℕ) (o : Option Outgoing) (c : Option SentCommand) → OwnActs (resent_acts operators at n o c)
  again_own operators at n (Some o) c = tt
  again_own operators at n None (Some c) = tt
  again_own operators at n None None = tt

  resent_own : (operators : List (List ℕ)) (at : ℕ) (from : OutboxRows) (numbers : List ℕ) → OwnActs (all_resent operators at from numbers)
  resent_own operators at from [] = tt
  resent_own operators at from (n ∷ ns) =
      let first : List Act = resent_acts operators at n (get from.pushes n) (get from.commands n) in
      acts_append first (all_resent operators at from ns) (again_own operators at n (get from.pushes n) (get from.commands n)) (resent_own operators at from ns)

  order_own : (s : State) (at : ℕ) (to : List ℕ) (o : Order) (c : Command) (b : List Act) → Makes s o c b → OwnActs (b ++ (commanded at (next_request s) to c ∷ []))
  order_own s at to o c b (orders.Start uid type location evse connector t has) = (tt, (tt, tt))
  order_own s at to o c b (orders.Reserve uid type expiry id location evse t has) = (tt, tt)
  order_own s at to o c b (orders.Stop id) = (tt, tt)
  order_own s at to o c b (orders.Cancel id) = (tt, tt)
  order_own s at to o c b (orders.Unlock location evse connector) = (tt, tt)

  answer_own : (s : State) (at : ℕ) (q : Packet) (w : Reply) (own : List Act) → Answers s at q w own → OwnActs own
  answer_own s at q w own (lines.ResultTaken r carries n c fits none w_is own_is) = subst OwnActs (sym own_is) (tt, tt)
  answer_own s at q w own (lines.ResultKnown r carries n c fits x had w_is own_is) = subst OwnActs (sym own_is) tt
  answer_own s at q w own (lines.ResultOfNone r carries none w_is own_is) = subst OwnActs (sym own_is) tt
  answer_own s at q w own (lines.SessionRefused x carries wrong w_is own_is) = subst OwnActs (sym own_is) tt
  answer_own s at q w own (lines.SessionTaken x carries right news w_is own_is) = subst OwnActs (sym own_is) (tt, tt)
  answer_own s at q w own (lines.SessionKept x carries right old w_is own_is) = subst OwnActs (sym own_is) tt
  answer_own s at q w own (lines.CdrRefused x carries wrong w_is own_is) = subst OwnActs (sym own_is) tt
  answer_own s at q w own (lines.CdrInConflict x carries right conflict w_is own_is) = subst OwnActs (sym own_is) tt
  answer_own s at q w own (lines.CdrKept x carries right fine had w_is own_is) = subst OwnActs (sym own_is) tt
  answer_own s at q w own (lines.CdrTaken x carries right fine new_one w_is own_is) = subst OwnActs (sym own_is) (tt, tt)
  answer_own s at q w own (lines.Unknown a carries none w_is own_is) = subst OwnActs (sym own_is) tt
  answer_own s at q w own (lines.Allowed a carries t has valid w_is own_is) = subst OwnActs (sym own_is) (tt, tt)
  answer_own s at q w own (lines.Blocked a carries t has invalid w_is own_is) = subst OwnActs (sym own_is) tt

  line_own : (s : State) (at : ℕ) (q : Packet) (to : List ℕ) (acts : List Act) → PacketLine s at q to acts → OwnActs acts
  line_own s at q to acts (lines.Again asks r has is) = subst OwnActs (sym is) tt
  line_own s at q to acts (lines.Answered new w own answers is) = subst OwnActs (sym is) (tt, answer_own s at q w own answers)
  line_own s at q to acts (lines.Responded r carries c awaited is) = subst OwnActs (sym is) (tt, tt)
  line_own s at q to acts (lines.LateResponse r carries none is) = subst OwnActs (sym is) tt
  line_own s at q to acts (lines.Acknowledged a carries ends is) = subst OwnActs (sym is) (tt, tt)
  line_own s at q to acts (lines.Idle a carries none is) = subst OwnActs (sym is) tt

asked_own : (s : State) (i : Input) (acts : List Act) → Asks s i acts → OwnActs s.party acts
asked_own s (Arrives at q) acts comes = line_own s.party s at q comes.operator acts comes.line
asked_own s (Submits at operator o) acts line = subst (OwnActs s.party) (sym line.acts_are) (order_own s.party s at line.to o line.command line.before line.makes)
asked_own s (Gives at t) acts line =
    subst (OwnActs s.party) (sym line.acts_are)
    (ap (λ (v : Token). key v.party) line.version_is ∙ line.own, tokens_own s.party at line.version s.rows.outbox.last line.pushes)
asked_own s (Ticks at) acts line = subst (OwnActs s.party) (sym line.acts_are) (resent_own s.party s.operators at s.rows.outbox line.due)
asked_own s Restarts acts line = absurd line
asked_own s (Reopens p) acts line = absurd line

step_own : (s : State) (acts : List Act) → OwnActs s.party acts → AreOwnPuts s.party (step_of_acts s acts).changes
step_own s acts h =
    own_append s.party (count_changes (counters_of s) (counted (counters_of s) acts)) (all_changes acts)
    (counts_own s.party (counters_of s) (counted (counters_of s) acts)) h

-- ---- an event of a provider

asked_may : (s : State) (i : Input) (acts : List Act) → IsConsistent s → Asks s i acts → AreInRange s acts → MayFollow s (step_of_acts s acts)
asked_may s (Arrives at q) acts fine line range = packet_steps.packets at q s acts fine line range
asked_may s (Submits at operator order) acts fine line range = order_steps.orders at operator order s acts fine line range
asked_may s (Gives at t) acts fine line range = token_steps.tokens at t s acts fine line range
asked_may s (Ticks at) acts fine line range = tick_steps.ticks at s acts fine line range
asked_may s Restarts acts fine line range = absurd line
asked_may s (Reopens p) acts fine line range = absurd line

consistent_stays : (s t : State) (e : Event) → IsConsistent s → Happens s e t → IsConsistent t
consistent_stays s t e fine (Done by) =
    subst (λ (o : Out). IsConsistent o.state) (sym by.out_is) (follow_consistent s (step_of_acts s by.acts) (asked_may s e.input by.acts fine by.line by.in_range) fine)
consistent_stays s t e fine (Restarted now is) = subst (λ (o : Out). IsConsistent o.state) (sym is) (restarted_consistent s fine)
consistent_stays s t e fine (Reopened p now may is) = subst (λ (o : Out). IsConsistent o.state) (sym is) (reopened_consistent p s may)
consistent_stays s t e fine (Refused same_setup is) = subst (λ (o : Out). IsConsistent o.state) (sym is) fine

keyed_stays : (s t : State) (e : Event) → AreKeyed s.rows → Happens s e t → AreKeyed t.rows
keyed_stays s t e keyed (Done by) =
    subst (λ (o : Out). AreKeyed o.state.rows) (sym by.out_is) (keyed_changes (step_of_acts s by.acts).changes s.rows keyed)
keyed_stays s t e keyed (Restarted now is) = subst (λ (o : Out). AreKeyed o.state.rows) (sym is) keyed
keyed_stays s t e keyed (Reopened p now may is) = subst (λ (o : Out). AreKeyed o.state.rows) (sym is) keyed
keyed_stays s t e keyed (Refused same_setup is) = subst (λ (o : Out). AreKeyed o.state.rows) (sym is) keyed

abbrev OwnTokens : State → Type 0
OwnTokens s = (u : Token) → HasRow s.rows (row.Token u) → key u.party ≡ key s.party

tokens_after : (s : State) (i : Input) (acts : List Act) → IsConsistent s → OwnTokens s → Asks s i acts → AreInRange s acts → OwnTokens (after (step_of_acts s acts) s)
tokens_after s i acts fine own line range u has =
    let x = step_of_acts s acts in
    let may = asked_may s i acts fine line range in
    elim ((row_changes x.changes s may.apart may.may (row.Token u)).0 has) [
      | inl put ↦ own_in s.party x.changes (step_own s acts (asked_own s i acts line)) u put
      | inr stood ↦ own u stood.0
    ]

tokens_stay : (s t : State) (e : Event) → IsConsistent s → OwnTokens s → Happens s e t → OwnTokens t
tokens_stay s t e fine own (Done by) = subst (λ (o : Out). OwnTokens o.state) (sym by.out_is) (tokens_after s e.input by.acts fine own by.line by.in_range)
tokens_stay s t e fine own (Restarted now is) = subst (λ (o : Out). OwnTokens o.state) (sym is) own
tokens_stay s t e fine own (Reopened p now may is) = subst (λ (o : Out). OwnTokens o.state) (sym is) own
tokens_stay s t e fine own (Refused same_setup is) = subst (λ (o : Out). OwnTokens o.state) (sym is) own

module _ (s t : State) (e : Event) (keyed : AreKeyed s.rows) (w : IsWhole s) (happens : Happens s e t) where
  party_is : t.party ≡ s.party
  party_is = same_party s t e happens

  sessions_stay : SessionsMove s e.input t.rows.inbox.sessions → (x : Session) → HasRow t.rows (row.Session x) → key x.cdr_token.party ≡ key s.party
  sessions_stay (SameSessions is) x has = w.sessions x (ap (λ (m : Sessions). get m (session_key x)) (sym is) ∙ has)
  sessions_stay (SessionTaken at q comes y carries right news is) x has =
      elim (of_insert text_pair_total text_pair_exact s.rows.inbox.sessions (session_key y) y (session_key x) x (ap (λ (m : Sessions). get m (session_key x)) (sym is) ∙ has)) [
        | inl new ↦ ap (λ (z : Session). key z.cdr_token.party) (sym new.1) ∙ right.0
        | inr stood ↦ w.sessions x stood
      ]

  cdrs_stay : CdrsMove s e.input (cdrs_put e.changes) t.rows.inbox.cdrs → (x : Cdr) → HasRow t.rows (row.Cdr x) → key x.cdr_token.party ≡ key s.party
  cdrs_stay (SameCdrs none is) x has = w.cdrs x (ap (λ (m : Cdrs). get m (cdr_key x)) (sym is) ∙ has)
  cdrs_stay (CdrTaken at q comes y carries right fine new_one puts is) x has =
      elim (of_insert text_pair_total text_pair_exact s.rows.inbox.cdrs (cdr_key y) y (cdr_key x) x (ap (λ (m : Cdrs). get m (cdr_key x)) (sym is) ∙ has)) [
        | inl new ↦ ap (λ (z : Cdr). key z.cdr_token.party) (sym new.1) ∙ right.0
        | inr stood ↦ w.cdrs x stood
      ]

  once_stays : CdrsMove s e.input (cdrs_put e.changes) t.rows.inbox.cdrs → HasOnePerSession t.rows.inbox.cdrs
  once_stays (SameCdrs none is) = subst HasOnePerSession (sym is) w.once
  once_stays (CdrTaken at q comes y carries right fine new_one puts is) =
      subst HasOnePerSession (sym is)
      (one_per_session s.rows.inbox.cdrs y keyed.inbox.of_cdrs (new_key s.rows.inbox.cdrs y fine new_one) fine w.once)

  abbrev HasOwn : List ℕ → List ℕ → Type 0
  HasOwn party r = (number : ℕ) × IsOwnId AuthorizationReference party r number

  references_stay : ReferencesMove s t.rows → (n : ℕ) (r : List ℕ) → Carries t.rows (InCommand n) r → HasOwn s.party r
  references_stay (SameReferences same old) n r carried = let (c, has, is) = old (InCommand n) r carried in w.references n c has r is
  references_stay (Given last within b now) n r carried = elim (now (InCommand n) r carried) [
    | inl old ↦ let (c, has, is) = old in w.references n c has r is
    | inr new ↦ (next_reference s, record { is_number = within; made = new.1 })
  ]

  whole_stays : OwnTokens t → IsWhole t
  whole_stays tokens =
      let d = does s t e happens in
      record {
        references = λ n c has r is. subst (λ (p : List ℕ). HasOwn p r) (sym party_is) (references_stay d.references n r (c, has, is));
        tokens = tokens;
        sessions = λ x has. sessions_stay d.sessions x has ∙ ap key (sym party_is);
        cdrs = λ x has. cdrs_stay d.cdrs x has ∙ ap key (sym party_is);
        once = once_stays d.cdrs;
      }

-- a provider that can be made again of its rows
pub record CanBeMadeAgain (s : State) : Type 0 where
  pub consistent : IsConsistent s
  pub keyed : AreKeyed s.rows
  pub whole : IsWhole s

pub happening_stays : (s t : State) (e : Event) → Happens s e t → CanBeMadeAgain s → CanBeMadeAgain t
happening_stays s t e happens h = record {
  consistent = consistent_stays s t e h.consistent happens;
  keyed = keyed_stays s t e h.keyed happens;
  whole = whole_stays s t e h.keyed h.whole happens (tokens_stay s t e h.consistent h.whole.tokens happens);
}

happens_so : (s t : State) (e : Event) → ProviderDoes s e t → Happens s e t
happens_so s t e (steps.Done by) = Done by
happens_so s t e (steps.Restarted now is) = Restarted now is

pub providers_stay : (s t : State) (e : Event) → IsConsistent s → AreKeyed s.rows → IsWhole s → ProviderDoes s e t → IsConsistent t × AreKeyed t.rows × IsWhole t
providers_stay s t e fine keyed w step =
    let h = happening_stays s t e (happens_so s t e step) (record { consistent = fine; keyed = keyed; whole = w }) in
    (h.consistent, h.keyed, h.whole)

-- before the first event
pub opening_can : (p : Peering) → ArePeers p → CanBeMadeAgain (opening p)
opening_can p peers = record {
  consistent = opening_consistent p peers;
  keyed = record {
    tokens = keyed_empty;
    inbox = record { of_sessions = own_none; of_cdrs = λ k x has. absurd (not_both x _ (get-empty _ k) has) };
  };
  whole = (made_of_none p (opening p) refl).whole;
}
