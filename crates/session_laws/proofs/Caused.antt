-- Each version and each charge detail record that an event puts has a cause.
use Rattle.std.proofs.Common.{◌≡◌, ◌≢◌, ◌<◌, ◌≤◌, ◌+◌, ◌++◌, ℕ, Bool, true, false, cond, nat_eq, eqb-true, List, [], ◌∷◌, length, map, inl, inr, refl, sym, ap, subst, arith}
use Rattle.std.specs.Prelude.{Option, Some, None, Contains}
use Rattle.std.proofs.lemmas.List.Elements.{Contains-append_right, Contains-append_left}
use Rattle.tables.proofs.Elements.{in_front}
use Rattle.ocpi_text.specs.Text.{key}
use Rattle.ocpi_text.specs.Whole.{max_whole}
use Rattle.ocpi_types.specs.Commands.{reference_of}
use Rattle.ocpi_types.specs.declared.authorizations.Authorization.{Authorization}
use Rattle.ocpi_types.specs.declared.cdrs.Cdr.{Cdr}
use Rattle.ocpi_types.specs.declared.events.ChargerEvent.{ChargerEvent}
use Rattle.ocpi_types.specs.declared.packet.Body.TheVariants as body
use Rattle.ocpi_types.specs.declared.packet.Packet.{Packet}
use Rattle.ocpi_types.specs.declared.rows.Change.{Change}
use Rattle.ocpi_types.specs.declared.rows.Change.TheVariants.{Put, Drop}
use Rattle.ocpi_types.specs.declared.rows.Counter.TheVariants as counter
use Rattle.ocpi_types.specs.declared.rows.Row.TheVariants as row
use Rattle.ocpi_types.specs.declared.rows.RowKey.{RowKey}
use Rattle.ocpi_types.specs.declared.rows.RowKey.TheVariants as keys
use Rattle.ocpi_types.specs.declared.sessions.Session.{Session}
use Rattle.ocpi_types.specs.declared.commands.Command.{Command}
use Rattle.ocpi_types.specs.declared.stored.OpenCommand.{OpenCommand}
use Rattle.ocpi_types.specs.declared.stored.Push.TheVariants as push
use Rattle.ocpi_types.specs.declared.stored.Reply.{Reply}
use Rattle.ocpi_types.specs.declared.token.Token.{Token}
use Rattle.command_book.specs.Stored as book
use Rattle.reservation_book.specs.declared.standing.Standing.{Standing}
use Rattle.authorization_book.specs.Waits as waits
use Rattle.node_steps.specs.Acts.{Act, all_changes, changed}
use Rattle.node_steps.specs.Drafts.{count_change}
use Rattle.node_steps.proofs.Gathering.{changes_append}
use Rattle.operator_rows.specs.State.{State}
use Rattle.operator_rows.specs.Sound.{IsConsistent}
use Rattle.operator_tables.specs.declared.decision.Decision.{Decision}
use Rattle.operator_tables.specs.declared.decision.Decision.TheVariants as decision
use Rattle.operator_steps.specs.Acts.{deadline, decided_acts, opened, reply_of, spent, used}
use Rattle.node_steps.specs.Acts.{answered}
use Rattle.operator_steps.specs.declared.ending.Ending.{Ending}
use Rattle.operator_steps.specs.Asking.{AnswerActs, IsAnswered}
use Rattle.operator_steps.specs.Ends.{all_resent, ends_acts, expired_acts}
use Rattle.operator_steps.specs.Charger as charger
use Rattle.operator_steps.specs.Charger.{ChargerLine}
use Rattle.operator_steps.specs.Credits as credits
use Rattle.operator_steps.specs.Credits.{CreditLine, next_credit}
use Rattle.operator_steps.specs.Events.{Event, Input, Arrives, Serves, Reports, Credits, Ticks, Restarts, Reopens, Asks}
use Rattle.operator_steps.specs.Moves.{AreInRange, Quietly, Work, quiet}
use Rattle.operator_steps.specs.Service as service
use Rattle.operator_steps.specs.Service.{ServiceLine}
use Rattle.operator_steps.specs.Sessions as acts_of
use Rattle.operator_steps.specs.Sessions.{IsBegun, IsBilled, IsMoved, first_of, next_cdr, numbered_cdrs, numbered_sessions, versioned}
use Rattle.operator_steps.specs.Steps as steps
use Rattle.operator_steps.specs.Steps.{Comes, PacketLine, TokenLine}
use Rattle.operator_steps.specs.TickFacts.{AreLeftUnanswered, IsTickOf, None_left, Nothing_begins, Begins_session, tick_acts}
use Rattle.operator_steps.proofs.Ends.{IsOfEnd, Opened, Pushed, Ended, of_ends}
use Rattle.operator_steps.proofs.Expiring.{of_expired}
use Rattle.operator_steps.proofs.Resending.{resent_changes}
use Rattle.operator_steps.proofs.TickStages.{stages_see}
use Rattle.operator_steps.proofs.BegunChanges.{late_counts}
use Rattle.operator_steps.proofs.BegunSteps.{begun_is}
use Rattle.operator_steps.proofs.Orderly.{in_later}
use Rattle.session_tables.specs.declared.beginning.Beginning.{Beginning}
use Rattle.session_tables.specs.declared.shown.Shown.TheVariants as shown
use Rattle.session_tables.specs.Answers.{BeginsByAnswer, Decided}
use Rattle.session_laws.proofs.Doing.{Does, IsAsked, Nothing, Asked}
use Rattle.session_laws.proofs.Covering.{Covers, covers_acts, covers_append, covers_kinds, covers_record, covers_version}
use Rattle.session_laws.proofs.Causes.{CdrCause, Billed, Credited, HowBegun, Started, Shown, Answered, Unanswered, SessionCause, Begun, Moved}

module _ (P : Session → Type 0) (Q : Cdr → Type 0) where
  -- the acts of a version, of a session that begins, and of a record
  covers_versioned : (at last : ℕ) (to : List ℕ) (old : Option ℕ) (v : Session) → P v → Covers P Q (all_changes (versioned at last to old v))
  covers_versioned at last to None v p = covers_append P Q (Put (row.Push (last + 1) to (push.PutSession v)) ∷ []) (Put (row.Session v) ∷ []) (covers_kinds P Q _ refl refl) (covers_version P Q v p)
  covers_versioned at last to (Some k) v p =
      covers_append P Q (Drop (keys.Push k) ∷ (Put (row.Push (last + 1) to (push.PutSession v)) ∷ [])) (Put (row.Session v) ∷ []) (covers_kinds P Q _ refl refl) (covers_version P Q v p)

  covers_used : (p : List ℕ) (reservation : Option (List ℕ)) → Covers P Q (all_changes (used p reservation))
  covers_used p None = covers_kinds P Q _ refl refl
  covers_used p (Some id) = covers_kinds P Q _ refl refl

  covers_begun : (s : State) (at last n : ℕ) (b : Beginning) (begun : List Act) → IsBegun s at last n b begun → P (first_of s at n b) → Covers P Q (all_changes begun)
  covers_begun s at last n b begun is p =
      subst (λ l. Covers P Q (all_changes l)) (sym (begun_is s at last n b begun is))
      (covers_acts P Q (used (key b.token.party) b.reservation_id) (versioned at last is.versioned.to is.versioned.old (first_of s at n b)) (covers_used (key b.token.party) b.reservation_id)
      (covers_versioned at last is.versioned.to is.versioned.old (first_of s at n b) p))

  covers_posted : (last : ℕ) (to : List ℕ) (x : Cdr) → Q x → Covers P Q (Put (row.Push (last + 1) to (push.PostCdr x)) ∷ (Put (row.Cdr x) ∷ []))
  covers_posted last to x q = covers_append P Q (Put (row.Push (last + 1) to (push.PostCdr x)) ∷ []) (Put (row.Cdr x) ∷ []) (covers_kinds P Q _ refl refl) (covers_record P Q x q)

  covers_bill : (last n : ℕ) (to : List ℕ) (x : Cdr) → Q x → Covers P Q (Put (row.Count counter.Cdr n) ∷ (Put (row.Push (last + 1) to (push.PostCdr x)) ∷ (Put (row.Cdr x) ∷ [])))
  covers_bill last n to x q =
      covers_append P Q (Put (row.Count counter.Cdr n) ∷ []) (Put (row.Push (last + 1) to (push.PostCdr x)) ∷ (Put (row.Cdr x) ∷ [])) (covers_kinds P Q _ refl refl) (covers_posted last to x q)

  covers_spent : (p : List ℕ) (reference : Option (List ℕ)) → Covers P Q (all_changes (spent p reference))
  covers_spent p None = covers_kinds P Q _ refl refl
  covers_spent p (Some r) = covers_kinds P Q _ refl refl

  -- what ends, expires and is sent again, and a decision, put none
  no_session_end : (last : ℕ) (ends : List Ending) (k : RowKey) (p id : List ℕ) → IsOfEnd last ends k → k ≢ keys.Session p id
  no_session_end last ends k p id (Opened e i x) same = absurd (cc)
  no_session_end last ends k p id (Pushed n after bound x) same = absurd (cc)
  no_session_end last ends k p id (Ended e i x) same = absurd (cc)

  no_cdr_end : (last : ℕ) (ends : List Ending) (k : RowKey) (p id : List ℕ) → IsOfEnd last ends k → k ≢ keys.Cdr p id
  no_cdr_end last ends k p id (Opened e i x) same = absurd (cc)
  no_cdr_end last ends k p id (Pushed n after bound x) same = absurd (cc)
  no_cdr_end last ends k p id (Ended e i x) same = absurd (cc)

  covers_ends : (at : ℕ) (m : book.OpenCommands) (last : ℕ) (ends : List Ending) → Covers P Q (all_changes (ends_acts at m last ends))
  covers_ends at m last ends = record {
    sessions = λ v i. absurd (no_session_end last ends _ (key v.party) (key v.id) (of_ends at m last ends _ i) refl);
    cdrs = λ x i. absurd (no_cdr_end last ends _ (key x.party) (key x.id) (of_ends at m last ends _ i) refl);
  }

  covers_expired : (expired : List Standing) → Covers P Q (all_changes (expired_acts expired))
  covers_expired expired = record {
    sessions = λ v i. let of = of_expired expired _ i in let bad : keys.Session (key v.party) (key v.id) ≡ keys.Reservation of.0.provider of.0.id = of.2 in absurd (cc);
    cdrs = λ x i. let of = of_expired expired _ i in let bad : keys.Cdr (key x.party) (key x.id) ≡ keys.Reservation of.0.provider of.0.id = of.2 in absurd (cc);
  }

  covers_none : Covers P Q []
  covers_none = covers_kinds P Q [] refl refl

  covers_start : (p to : List ℕ) (n : ℕ) (r : Reply) (o : OpenCommand) (reservation reference : Option (List ℕ)) →
      Covers P Q (all_changes (answered p to n r ∷ ((used p reservation ++ (opened p n o ∷ spent p reference)) ++ [])))
  covers_start p to n r o None None = covers_kinds P Q _ refl refl
  covers_start p to n r o None (Some x) = covers_kinds P Q _ refl refl
  covers_start p to n r o (Some id) None = covers_kinds P Q _ refl refl
  covers_start p to n r o (Some id) (Some x) = covers_kinds P Q _ refl refl

  covers_decided : (at last : ℕ) (to p : List ℕ) (n : ℕ) (c : Command) (d : Decision) → Covers P Q (all_changes (decided_acts at last to p n c d))
  covers_decided at last to p n c (decision.Refused status) = covers_kinds P Q _ refl refl
  covers_decided at last to p n c (decision.Answered w) = covers_kinds P Q _ refl refl
  covers_decided at last to p n c decision.Opened = covers_kinds P Q _ refl refl
  covers_decided at last to p n c (decision.Started place reservation) =
      covers_start p to n (reply_of at (decision.Started place reservation)) (book.open_command c (Some place) (deadline at)) reservation (reference_of c)
  covers_decided at last to p n c (decision.Resulted x) = covers_kinds P Q _ refl refl
  covers_decided at last to p n c (decision.Noted id x) = covers_kinds P Q _ refl refl
  covers_decided at last to p n c (decision.Reserved id r) = covers_kinds P Q _ refl refl
  covers_decided at last to p n c (decision.Cancelled id) = covers_kinds P Q _ refl refl

  covers_token : (s : State) (at : ℕ) (to sender : List ℕ) (n : ℕ) (t : Token) (acts : List Act) → TokenLine s at to sender n t acts → Covers P Q (all_changes acts)
  covers_token s at to sender n t acts (steps.Foreign other is) = subst (λ l. Covers P Q (all_changes l)) (sym is) (covers_kinds P Q _ refl refl)
  covers_token s at to sender n t acts (steps.Kept own old is) = subst (λ l. Covers P Q (all_changes l)) (sym is) (covers_kinds P Q _ refl refl)
  covers_token s at to sender n t acts (steps.Stored own new is) = subst (λ l. Covers P Q (all_changes l)) (sym is) (covers_kinds P Q _ refl refl)

  covers_service : (s : State) (evse : List ℕ) (in_service : Bool) (acts : List Act) → ServiceLine s evse in_service acts → Covers P Q (all_changes acts)
  covers_service s evse in_service acts (service.Unknown none is) = subst (λ l. Covers P Q (all_changes l)) (sym is) covers_none
  covers_service s evse in_service acts (service.Unchanged one same is) = subst (λ l. Covers P Q (all_changes l)) (sym is) covers_none
  covers_service s evse in_service acts (service.Withdrawn one off was is) = subst (λ l. Covers P Q (all_changes l)) (sym is) (covers_kinds P Q _ refl refl)
  covers_service s evse in_service acts (service.Restored one on was is) = subst (λ l. Covers P Q (all_changes l)) (sym is) (covers_kinds P Q _ refl refl)

in_left : (xs ys : List Act) (c : Change) → Contains (all_changes xs) c → Contains (all_changes (xs ++ ys)) c
in_left xs ys c i = subst (λ l. Contains l c) (sym (changes_append xs ys)) (Contains-append_left (all_changes xs) (all_changes ys) c i)

in_right : (xs ys : List Act) (c : Change) → Contains (all_changes ys) c → Contains (all_changes (xs ++ ys)) c
in_right xs ys c i = subst (λ l. Contains l c) (sym (changes_append xs ys)) (Contains-append_right (all_changes xs) (all_changes ys) c i)

-- a counter that gave a number since is stored
counted_in : (last now : ℕ) → last < now → Contains (all_changes (map changed (count_change counter.Session last now))) (Put (row.Count counter.Session now))
counted_in last now below =
    elim (nat_eq last now) as (λ b. nat_eq last now ≡ b → Contains (all_changes (map changed (cond b [] (Put (row.Count counter.Session now) ∷ [])))) (Put (row.Count counter.Session now))) [
      | true ↦ λ e. absurd (let same = eqb-true last now e in omega (arith, same, below))
      | false ↦ λ e. in_front (Put (row.Count counter.Session now)) []
    ] refl

covers_count : (P : Session → Type 0) (Q : Cdr → Type 0) (last now : ℕ) → Covers P Q (all_changes (map changed (count_change counter.Session last now)))
covers_count P Q last now = elim (nat_eq last now) as (λ b. Covers P Q (all_changes (map changed (cond b [] (Put (row.Count counter.Session now) ∷ []))))) [
  | true ↦ covers_kinds P Q [] refl refl
  | false ↦ covers_kinds P Q _ refl refl
]

module _ (s : State) (i : Input) where
  -- each version and each record that these changes put has a cause in these acts
  abbrev AreCaused : List Act → List Change → Type 0
  AreCaused acts cs = Covers (SessionCause s i acts) (CdrCause s i acts) cs

  abbrev IsCaused : List Act → Type 0
  IsCaused acts = AreCaused acts (all_changes acts)

  as_quiet : (work : Work) (acts : List Act) → work ≡ quiet acts → IsCaused acts → IsCaused work.acts
  as_quiet work acts is h = subst (λ (w : Work). IsCaused w.acts) (sym is) h

  -- the number of a session that begins is within its counter
  numbered_in : (rest : List Act) (n : ℕ) → AreInRange s (numbered_sessions n ∷ rest) → n ≤ max_whole
  numbered_in rest n range = range.numbers counter.Session n (in_front _ _)

  answer_caused : (at : ℕ) (q : Packet) → i ≡ Arrives at q → (a : Authorization) (work : Work) → q.body ≡ body.Authorization a → (h : IsAnswered s at q a work) → AreInRange s work.acts → IsCaused work.acts
  answer_caused at q arrives a work carries h range =
      let is : work.acts ≡ h.acts = ap (λ (w : Work). w.acts) h.work_is in
      subst IsCaused (sym is) (by h.begins h.decided h.acts_are (subst (AreInRange s) is range))
    where
      by : (o : Option Beginning) → Decided (BeginsByAnswer s.site s.rows h.awaited a) o → AnswerActs s at o h.acts → AreInRange s h.acts → IsCaused h.acts
      by None decided none range = subst IsCaused (sym none) (covers_none (SessionCause s i []) (CdrCause s i []))
      by (Some b) begins (begun, is_begun, acts_are) range =
          let n = s.rows.charged.last_session + 1 in
          let front = numbered_sessions n ∷ [] in
          let spends = spent (key b.token.party) b.authorization_reference in
          let acts = numbered_sessions n ∷ (spends ++ begun) in
          let spent_in : (r : List ℕ) → b.authorization_reference ≡ Some r → Contains (all_changes acts) (Put (row.Spent (key b.token.party) (key r))) =
          (λ r is. in_later (Put (row.Count counter.Session n)) (all_changes (spends ++ begun)) (Put (row.Spent (key b.token.party) (key r))) (subst (λ l. Contains l (Put (row.Spent (key b.token.party) (key r)))) (sym (changes_append spends begun))
          (Contains-append_left (all_changes spends) (all_changes begun) (Put (row.Spent (key b.token.party) (key r))) (subst (λ o. Contains (all_changes (spent (key b.token.party) o)) (Put (row.Spent (key b.token.party) (key r)))) (sym is) (in_front (Put (row.Spent (key b.token.party) (key r))) []))))) in
          let cause : SessionCause s i acts (first_of s at n b) =
          Begun at n b (Answered at q arrives a carries h.awaited h.stands begins spent_in) (omega arith) (numbered_in (spends ++ begun) n (subst (AreInRange s) acts_are range)) refl (inr refl) in
          subst IsCaused (sym acts_are) (covers_append (SessionCause s i acts) (CdrCause s i acts) (all_changes front) (all_changes (spends ++ begun)) (covers_kinds (SessionCause s i acts) (CdrCause s i acts) _ refl refl)
          (covers_acts (SessionCause s i acts) (CdrCause s i acts) spends begun (covers_spent (SessionCause s i acts) (CdrCause s i acts) (key b.token.party) b.authorization_reference) (covers_begun (SessionCause s i acts) (CdrCause s i acts) s at s.rows.request n b begun is_begun cause)))

  packet_caused : (at : ℕ) (q : Packet) → i ≡ Arrives at q → (to : List ℕ) (work : Work) → PacketLine s at q to work → AreInRange s work.acts → IsCaused work.acts
  packet_caused at q arrives to work (steps.Again carries r kept is) range = as_quiet work _ is (covers_kinds _ _ _ refl refl)
  packet_caused at q arrives to work (steps.Decided c d of is) range = as_quiet work _ is (covers_decided _ _ at s.rows.request to (key q.from) q.request c d)
  packet_caused at q arrives to work (steps.Sent t acts carries new line is) range = as_quiet work acts is (covers_token _ _ s at to (key q.from) q.request t acts line)
  packet_caused at q arrives to work (steps.Acknowledged a carries ends is) range = as_quiet work _ is (covers_kinds _ _ _ refl refl)
  packet_caused at q arrives to work (steps.Idle a carries ends is) range = as_quiet work [] is (covers_none _ _)
  packet_caused at q arrives to work (steps.Answered a carries line) range = answer_caused at q arrives a work carries line range
  packet_caused at q arrives to work (steps.Unasked a carries none is) range = as_quiet work [] is (covers_none _ _)

  service_caused : (evse : List ℕ) (in_service : Bool) (work : Work) → Quietly (ServiceLine s evse in_service) work → IsCaused work.acts
  service_caused evse in_service work (acts, line, is) = as_quiet work acts is (covers_service _ _ s evse in_service acts line)

  -- a start is carried out
  started_caused : (at : ℕ) (report : ChargerEvent) → i ≡ Reports at report → (e : Ending) (b : Beginning) (begun : List Act) → charger.IsStarted s report e b →
      IsBegun s at (s.rows.request + 1) (s.rows.charged.last_session + 1) b begun →
      AreInRange s (numbered_sessions (s.rows.charged.last_session + 1) ∷ (ends_acts at s.rows.commands.pending s.rows.request (e ∷ []) ++ begun)) →
      IsCaused (numbered_sessions (s.rows.charged.last_session + 1) ∷ (ends_acts at s.rows.commands.pending s.rows.request (e ∷ []) ++ begun))
  started_caused at report reports e b begun started is range =
      let n = s.rows.charged.last_session + 1 in
      let ends = ends_acts at s.rows.commands.pending s.rows.request (e ∷ []) in
      let acts = numbered_sessions n ∷ (ends ++ begun) in
      let kept : Contains (all_changes acts) (Put (row.Result e.provider e.number e.result)) = (3, omega arith, refl) in
      let gone : Contains (all_changes acts) (Drop (keys.Pending e.provider e.number)) = (1, omega arith, refl) in
      let cause : SessionCause s i acts (first_of s at n b) = Begun at n b (Started at report reports e started kept gone) (omega arith) (numbered_in (ends ++ begun) n range) refl (inr refl) in
      covers_append _ _ (all_changes (numbered_sessions n ∷ [])) (all_changes (ends ++ begun)) (covers_kinds _ _ _ refl refl)
      (covers_acts _ _ ends begun (covers_ends _ _ at s.rows.commands.pending s.rows.request (e ∷ [])) (covers_begun _ _ s at (s.rows.request + 1) n b begun is cause))

  begun_caused : (at : ℕ) (report : ChargerEvent) → i ≡ Reports at report → (b : Beginning) (begun : List Act) → charger.Shows s report (shown.Begins b) →
      IsBegun s at s.rows.request (s.rows.charged.last_session + 1) b begun → AreInRange s (numbered_sessions (s.rows.charged.last_session + 1) ∷ begun) →
      IsCaused (numbered_sessions (s.rows.charged.last_session + 1) ∷ begun)
  begun_caused at report reports b begun shows is range =
      let n = s.rows.charged.last_session + 1 in
      let acts = numbered_sessions n ∷ begun in
      let cause : SessionCause s i acts (first_of s at n b) = Begun at n b (Shown at report reports shows) (omega arith) (numbered_in begun n range) refl (inr refl) in
      covers_append _ _ (all_changes (numbered_sessions n ∷ [])) (all_changes begun) (covers_kinds _ _ _ refl refl) (covers_begun _ _ s at s.rows.request n b begun is cause)

  -- a session goes on
  moved_caused : (at : ℕ) (report : ChargerEvent) → i ≡ Reports at report → (acts : List Act) → IsMoved s at report acts → AreInRange s acts → IsCaused acts
  moved_caused at report reports acts m range =
      subst (λ l. AreCaused acts (all_changes l)) (sym m.acts_are) (covers_acts _ _ m.version_acts m.bill_acts
      (subst (λ l. AreCaused acts (all_changes l)) (sym m.versioned.acts_are) (covers_versioned _ _ at s.rows.request m.versioned.to m.versioned.old m.after (Moved at report reports m refl)))
      (by m.billed))
    where
      by : IsBilled s at (s.rows.request + 1) m.after m.bill_acts → AreCaused acts (all_changes m.bill_acts)
      by (acts_of.Billed complete to peer l e k place is) =
          let n = s.rows.charged.last_cdr + 1 in
          let x = next_cdr s m.after l e k in
          let counts : Contains (all_changes m.bill_acts) (Put (row.Count counter.Cdr n)) = subst (λ z. Contains (all_changes z) (Put (row.Count counter.Cdr n))) (sym is) (in_front (Put (row.Count counter.Cdr n)) (Put (row.Push (s.rows.request + 1 + 1) to (push.PostCdr x)) ∷ (Put (row.Cdr x) ∷ []))) in
          let all_count : Contains (all_changes acts) (Put (row.Count counter.Cdr n)) = subst (λ z. Contains (all_changes z) (Put (row.Count counter.Cdr n))) (sym m.acts_are)
          (subst (λ z. Contains z (Put (row.Count counter.Cdr n))) (sym (changes_append m.version_acts m.bill_acts)) (Contains-append_right (all_changes m.version_acts) (all_changes m.bill_acts) (Put (row.Count counter.Cdr n)) counts)) in
          let cause : CdrCause s i acts x = Billed at report reports m complete l e k place (range.numbers counter.Cdr n all_count) refl in
          subst (λ z. AreCaused acts (all_changes z)) (sym is) (covers_bill (SessionCause s i acts) (CdrCause s i acts) (s.rows.request + 1) n to x cause)
      by (acts_of.Unbilled not_complete is) = subst (λ z. AreCaused acts (all_changes z)) (sym is) (covers_none (SessionCause s i acts) (CdrCause s i acts))

  report_caused : (at : ℕ) (report : ChargerEvent) → i ≡ Reports at report → (work : Work) → ChargerLine s at report work → AreInRange s work.acts → IsCaused work.acts
  report_caused at report reports work (charger.Ended e ended is) range = as_quiet work _ is (covers_ends _ _ at s.rows.commands.pending s.rows.request (e ∷ []))
  report_caused at report reports work (charger.Started e b begun started begins is) range =
      as_quiet work _ is (started_caused at report reports e b begun started begins (subst (λ (w : Work). AreInRange s w.acts) is range))
  report_caused at report reports work (charger.Moved acts moved is) range = as_quiet work acts is (moved_caused at report reports acts moved (subst (λ (w : Work). AreInRange s w.acts) is range))
  report_caused at report reports work (charger.Begun b begun shows begins is) range =
      as_quiet work _ is (begun_caused at report reports b begun shows begins (subst (λ (w : Work). AreInRange s w.acts) is range))
  report_caused at report reports work (charger.Asked t location_id place shows asks) range =
      subst IsCaused (sym (ap (λ (w : Work). w.acts) asks.work_is)) (covers_kinds _ _ _ refl refl)
  report_caused at report reports work (charger.Idle ends starts moves shows is) range = as_quiet work [] is (covers_none _ _)

  -- a bill is taken back
  credit_caused : (at : ℕ) (session : List ℕ) → i ≡ Credits at session → (work : Work) → Quietly (CreditLine s at session) work → IsCaused work.acts
  credit_caused at session orders work (acts, line, is) = as_quiet work acts is (by line)
    where
      by : CreditLine s at session acts → IsCaused acts
      by (credits.Credited bill to takes below acts_are) =
          let x = next_credit at bill in
          let cause : CdrCause s i acts x = Credited at session orders bill to takes refl in
          subst (λ z. AreCaused acts (all_changes z)) (sym acts_are) (covers_posted (SessionCause s i acts) (CdrCause s i acts) s.rows.request to x cause)
      by (credits.NothingToCredit none acts_are) = subst (λ z. AreCaused acts (all_changes z)) (sym acts_are) (covers_none (SessionCause s i acts) (CdrCause s i acts))

  -- sessions that begin where no answer came
  late_caused : (all : List Act) (at : ℕ) → i ≡ Ticks at → (due : List ℕ) → ((k : ℕ) → Contains due k → waits.IsDue s.waits at k) → (end : ℕ) → (s.rows.charged.last_session < end → end ≤ max_whole) →
      (last n : ℕ) (ks : List ℕ) (acts : List Act) (now : ℕ) → AreLeftUnanswered s at last n ks acts now → now ≤ end → s.rows.charged.last_session ≤ n → ((k : ℕ) → Contains ks k → Contains due k) →
      AreCaused all (all_changes acts)
  late_caused all at ticks due are_due end most last n ks acts now (None_left l m) within from sub = covers_none _ _
  late_caused all at ticks due are_due end most last n ks acts now (Nothing_begins l m k more rest z one later) within from sub =
      late_caused all at ticks due are_due end most l m more rest z later within from (λ j h. sub j (in_later k more j h))
  late_caused all at ticks due are_due end most last n ks acts now (Begins_session l m k more b begun rest z one is later) within from sub =
      let counts = late_counts s at (l + 1) (m + 1) more rest z later in
      let how : HowBegun s i all b = Unanswered at ticks k (are_due k (sub k (in_front k more))) one.awaited one.stands one.decided in
      let cause : SessionCause s i all (first_of s at (m + 1) b) = Begun at (m + 1) b how (omega (arith, from)) (let top = most (omega (arith, counts, within, from)) in omega (arith, counts, within, top)) refl (inl (ap (λ (z : Beginning). z.authorization_reference) one.decided.there.begins_is)) in
      covers_acts _ _ begun rest (covers_begun _ _ s at l (m + 1) b begun is cause)
      (late_caused all at ticks due are_due end most (l + 1) (m + 1) more rest z later within (omega (arith, from)) (λ j h. sub j (in_later k more j h)))

  tick_caused : (at : ℕ) → i ≡ Ticks at → (work : Work) → IsTickOf s at work → AreInRange s work.acts → IsCaused work.acts
  tick_caused at ticks work h range =
      let acts = tick_acts at s h.ends h.expired h.now h.begun h.due in
      let is : work.acts ≡ acts = ap (λ (w : Work). w.acts) h.work_is in
      let in_range : AreInRange s acts = subst (AreInRange s) is range in
      let last = s.rows.charged.last_session in
      let ends = ends_acts at s.rows.commands.pending s.rows.request h.ends in
      let expired = expired_acts h.expired in
      let count = map changed (count_change counter.Session last h.now) in
      let resent = all_resent s.providers at s.rows.pushes h.due in
      let most : last < h.now → h.now ≤ max_whole = (λ below. in_range.numbers counter.Session h.now
      (in_right (ends ++ expired) ((count ++ h.begun) ++ resent) _ (in_left (count ++ h.begun) resent _ (in_left count h.begun _ (counted_in last h.now below))))) in
      subst IsCaused (sym is) (covers_acts _ _ (ends ++ expired) ((count ++ h.begun) ++ resent)
      (covers_acts _ _ ends expired (covers_ends _ _ at s.rows.commands.pending s.rows.request h.ends) (covers_expired _ _ h.expired))
      (covers_acts _ _ (count ++ h.begun) resent
      (covers_acts _ _ count h.begun (covers_count _ _ last h.now)
      (late_caused acts at ticks h.late (λ k j. (h.are_late.exact k).0 j) h.now most (s.rows.request + length h.ends) last h.late h.begun h.now h.unanswered (omega arith) (omega arith) (λ k j. j)))
      (subst (λ l. AreCaused acts l) (sym (resent_changes s.providers at s.rows.pushes h.due)) (covers_none _ _))))

-- where what holds at all times holds, each version and each record that an input asks for has a cause
asked_caused : (s : State) (i : Input) (work : Work) → IsConsistent s → Asks s i work → AreInRange s work.acts → IsCaused s i work.acts
asked_caused s (Arrives at q) work fine comes range = packet_caused s (Arrives at q) at q refl comes.provider work comes.line range
asked_caused s (Serves evse in_service) work fine line range = service_caused s (Serves evse in_service) evse in_service work line
asked_caused s (Reports at report) work fine line range = report_caused s (Reports at report) at report refl work line range
asked_caused s (Credits at session) work fine line range = credit_caused s (Credits at session) at session refl work line
asked_caused s (Ticks at) work fine line range = tick_caused s (Ticks at) at refl work ((stages_see s at work fine).0 line) range
asked_caused s Restarts work fine line range = absurd line
asked_caused s (Reopens other) work fine line range = absurd line

-- an event puts versions and records for a cause
module _ (s t : State) (e : Event) (fine : IsConsistent s) (d : Does s e t) where
  all_caused : IsCaused s e.input d.acts
  all_caused = by d.asked
    where
      by : IsAsked s e.input d.acts → IsCaused s e.input d.acts
      by (Nothing is) = subst (IsCaused s e.input) (sym is) (covers_none _ _)
      by (Asked work line range is) = subst (IsCaused s e.input) (sym is) (asked_caused s e.input work fine line range)

  pub session_cause : (v : Session) → Contains e.changes (Put (row.Session v)) → SessionCause s e.input d.acts v
  session_cause v i = elim (d.of_acts (Put (row.Session v)) i) [ inl count ↦ (let bad = count.2 in absurd (cc)) | inr j ↦ all_caused.sessions v j ]

  pub cdr_cause : (x : Cdr) → Contains e.changes (Put (row.Cdr x)) → CdrCause s e.input d.acts x
  cdr_cause x i = elim (d.of_acts (Put (row.Cdr x)) i) [ inl count ↦ (let bad = count.2 in absurd (cc)) | inr j ↦ all_caused.cdrs x j ]
