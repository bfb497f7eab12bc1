-- The reasons of what each line changes.
use Rattle.std.proofs.Common.{◌≡◌, ◌+◌, ◌≤◌, ◌<◌, ℕ, ℤ, List, [], ◌∷◌, ◌++◌, map, inl, inr, refl, sym, ap, subst, ◌∙◌, arith}
use Rattle.std.specs.Prelude.{Option, Some, None, Contains, Bool, cond, true, false, nat_eq, length}
use Rattle.std.specs.FinMap.{get}
use Rattle.std.proofs.lemmas.Bool.{eqb-true}
use Rattle.tables.proofs.Elements.{in_single}
use Rattle.tables.proofs.Options.{none_some}
use Rattle.ocpi_text.specs.Text.{key}
use Rattle.ocpi_types.specs.Commands.{reference_of, url_of}
use Rattle.ocpi_types.specs.Prices.{price_at}
use Rattle.ocpi_types.specs.declared.authorizations.Authorization.{Authorization}
use Rattle.ocpi_types.specs.declared.cdrs.Cdr.{Cdr}
use Rattle.ocpi_types.specs.declared.commands.StartSession.{StartSession}
use Rattle.ocpi_types.specs.declared.events.ChargerEvent.{ChargerEvent}
use Rattle.ocpi_types.specs.declared.events.ChargerEvent.TheVariants as event
use Rattle.ocpi_types.specs.declared.packet.Body.TheVariants as body
use Rattle.ocpi_types.specs.declared.packet.Packet.{Packet}
use Rattle.ocpi_types.specs.declared.rows.Row.TheVariants as row
use Rattle.ocpi_types.specs.declared.rows.RowKey.TheVariants as keys
use Rattle.ocpi_types.specs.declared.rows.Change.{Change}
use Rattle.ocpi_types.specs.declared.rows.Change.TheVariants.{Put, Drop}
use Rattle.ocpi_types.specs.declared.rows.Counter.TheVariants as counter
use Rattle.ocpi_types.specs.declared.sessions.Session.{Session}
use Rattle.ocpi_types.specs.declared.site.Connector.{Connector}
use Rattle.ocpi_types.specs.declared.site.Evse.{Evse}
use Rattle.ocpi_types.specs.declared.site.Location.{Location}
use Rattle.ocpi_types.specs.declared.token.Token.{Token}
use Rattle.ocpi_types.specs.declared.words.AuthMethod.TheVariants as how
use Rattle.ocpi_types.specs.declared.commands.Command.TheVariants as command
use Rattle.ocpi_types.specs.declared.stored.OpenCommand.{OpenCommand}
use Rattle.ocpi_types.specs.declared.stored.Push.TheVariants as push
use Rattle.ocpi_types.specs.declared.words.CommandResultType.{CommandResultType}
use Rattle.ocpi_types.specs.declared.words.CommandResultType.TheVariants as result
use Rattle.ocpi_types.specs.declared.words.TokenType.{TokenType}
use Rattle.authorization_book.specs.declared.awaited.Awaited.{Awaited}
use Rattle.reservation_book.specs.declared.standing.Standing.{Standing}
use Rattle.token_desk.specs.declared.answers.Swipe.{Swipe}
use Rattle.token_desk.specs.declared.answers.Swipe.TheVariants as shown
use Rattle.node_steps.specs.Acts.{Act, acknowledged, all_changes, all_messages, answered, changed, push_message, pushed}
use Rattle.node_steps.specs.Drafts.{count_change}
use Rattle.node_steps.specs.Peers.{IsPeer}
use Rattle.operator_rows.specs.State.{State, IsSpent}
use Rattle.operator_rows.specs.Sound.{IsConsistent, IsOwnStart}
use Rattle.operator_tables.specs.declared.decision.Decision.{Decision}
use Rattle.operator_tables.specs.declared.decision.Decision.TheVariants as decision
use Rattle.operator_tables.specs.Outcomes.{IsAbout, Tells}
use Rattle.operator_tables.proofs.Lines.{all_tell}
use Rattle.session_tables.specs.declared.beginning.Beginning.{Beginning}
use Rattle.session_tables.specs.declared.shown.Shown.TheVariants as shows
use Rattle.session_tables.specs.Beginnings.{begins, cdr_token_of}
use Rattle.session_tables.specs.Answers.{BeginsByAnswer, Decided}
use Rattle.session_tables.specs.Moves.{Makes}
use Rattle.session_tables.specs.Swipes as swipes
use Rattle.session_tables.specs.Swipes.{SwipeLine, told_by}
use Rattle.operator_steps.specs.declared.ending.Ending.{Ending}
use Rattle.operator_steps.specs.Acts.{decided_acts, reply_of, settled, spent, used, opened}
use Rattle.operator_steps.specs.Asking.{AnswerActs}
use Rattle.operator_steps.specs.Charger as charger
use Rattle.operator_steps.specs.Charger.{ChargerLine, IsStarted, Shows, outcome}
use Rattle.operator_steps.specs.Credits as credits
use Rattle.operator_steps.specs.Credits.{CreditLine, next_credit}
use Rattle.operator_steps.specs.Ends.{all_resent, ends_acts, expired_acts}
use Rattle.operator_steps.specs.Events.{Input, Arrives, Serves, Reports, Credits, Ticks, Restarts, Reopens, Asks}
use Rattle.operator_steps.specs.Moves.{Work}
use Rattle.operator_steps.specs.Service as service
use Rattle.operator_steps.specs.Service.{ServiceLine}
use Rattle.operator_steps.specs.Sessions.{IsBegun, first_of, numbered_sessions}
use Rattle.operator_steps.specs.Steps as lines
use Rattle.operator_steps.specs.Steps.{PacketLine, TokenLine}
use Rattle.operator_steps.specs.TickFacts as late
use Rattle.operator_steps.specs.TickFacts.{AreLeftUnanswered, IsLeftUnanswered, IsTickOf}
use Rattle.operator_steps.proofs.Resending.{resent_leave}
use Rattle.operator_laws.proofs.events.Causes.{DecidesIt}
use Rattle.operator_laws.proofs.events.Decided.{AllOf, all_acts, all_in}
use Rattle.operator_laws.proofs.events.Caused.{in_parts, timed_open}
use Rattle.operator_laws.proofs.events.Facts.{stages_see}
use Rattle.operator_laws.proofs.events.Reasons as reasons
use Rattle.operator_laws.proofs.events.Reasons.{BeginsFor, BegunBy, Reason}
use Rattle.operator_laws.proofs.events.Reasoned.{IsPart, IsToldEnd, begun_reason, begun_stored, bill_reason, billed_by, ends_reason, first_part, second_part, settled_reason, version_reason, version_stored}

-- what a report makes of a session has its id
moved_id : (price : ℤ) (at : ℕ) (report : ChargerEvent) (v w : Session) → Makes price at report v w → w.id ≡ v.id
moved_id price at (event.Starts evse) v w h = ap (λ (z : Session). z.id) h.1
moved_id price at (event.Meter evse kwh) v w h = ap (λ (z : Session). z.id) h.2
moved_id price at (event.Stops evse) v w h = elim h [ inl x ↦ ap (λ (z : Session). z.id) x.1 | inr x ↦ ap (λ (z : Session). z.id) x.1 ]
moved_id price at (event.Fault evse) v w h = elim h [ inl x ↦ ap (λ (z : Session). z.id) x.1 | inr x ↦ ap (λ (z : Session). z.id) x.1 ]
moved_id price at (event.Accepts provider number) v w h = absurd h
moved_id price at (event.Refuses provider number) v w h = absurd h
moved_id price at (event.Unlocked provider number) v w h = absurd h
moved_id price at (event.Swipe evse connector uid type) v w h = absurd h

-- no report ends a start by ACCEPTED
never_accepted : (report : ChargerEvent) (a : StartSession) → outcome report (command.StartSession a) ≡ Some result.Accepted → ⊥
never_accepted (event.Accepts provider number) a e = none_some result.Accepted e
never_accepted (event.Unlocked provider number) a e = none_some result.Accepted e
never_accepted (event.Refuses provider number) a e = cc
never_accepted (event.Fault evse) a e = cc
never_accepted (event.Starts evse) a e = none_some result.Accepted e
never_accepted (event.Meter evse kwh) a e = none_some result.Accepted e
never_accepted (event.Stops evse) a e = none_some result.Accepted e
never_accepted (event.Swipe evse connector uid type) a e = none_some result.Accepted e

-- a session that a token begins by itself has no reference
told_none : (told : Swipe) (l : Location) (e : Evse) (k : Connector) (held : Option (List ℕ)) (b : Beginning) → shows.Begins b ≡ told_by told l e k held → b.authorization_reference ≡ None
told_none (shown.Begin t) l e k held b is = let same : b ≡ begins t how.Whitelist None l e k held = cc in ap (λ (z : Beginning). z.authorization_reference) same
told_none (shown.Ask t) l e k held b is = absurd (cc)
told_none shown.Nothing l e k held b is = absurd (cc)

swiped_none : (s : State) (evse connector uid : List ℕ) (type : TokenType) (b : Beginning) → SwipeLine s evse connector uid type (shows.Begins b) → b.authorization_reference ≡ None
swiped_none s evse connector uid type b (swipes.Unplaced h is) = absurd (cc)
swiped_none s evse connector uid type b (swipes.Closed h is) = absurd (cc)
swiped_none s evse connector uid type b (swipes.Open l e k place held open_to told line is) = told_none told l e k _ b is

shown_none : (s : State) (report : ChargerEvent) (b : Beginning) → Shows s report (shows.Begins b) → b.authorization_reference ≡ None
shown_none s (event.Swipe evse connector uid type) b h = swiped_none s evse connector uid type b h
shown_none s (event.Accepts provider number) b h = absurd h
shown_none s (event.Refuses provider number) b h = absurd h
shown_none s (event.Unlocked provider number) b h = absurd h
shown_none s (event.Starts evse) b h = absurd h
shown_none s (event.Meter evse kwh) b h = absurd h
shown_none s (event.Stops evse) b h = absurd h
shown_none s (event.Fault evse) b h = absurd h

module _ (s : State) (i : Input) (acts : List Act) where
  abbrev Why : Change → Type 0
  Why c = Reason s i acts c

  abbrev AreReasoned : Type 0
  AreReasoned = (c : Change) → Contains (all_changes acts) c → Reason s i acts c

  -- acts that are just these
  just : (part : List Act) → acts ≡ part → (IsPart s i acts part → AllOf Why (all_changes part)) → AreReasoned
  just part is all c j =
      all_in Why (all_changes part)
      (all (record { changes = λ d k. subst (λ l. Contains (all_changes l) d) (sym is) k; messages = λ m k. subst (λ l. Contains (all_messages l) m) (sym is) k }))
      c (subst (λ l. Contains (all_changes l) c) is j)

  -- a decision
  module _ (h : DecidesIt s i acts) where
    abbrev p : List ℕ
    p = key h.packet.from

    abbrev n : ℕ
    n = h.packet.request

    abbrev reply : Decision → Act
    reply d = answered p h.to n (reply_of h.at d)

    -- no start has ACCEPTED for its result at once
    settled_now : (x : CommandResultType) → ((a : StartSession) → x ≡ result.Accepted → h.command ≡ command.StartSession a → ⊥) → IsPart s i acts (settled h.at s.rows.request h.to p n (url_of h.command) x) →
        AllOf Why (all_changes (settled h.at s.rows.request h.to p n (url_of h.command) x))
    settled_now x never part =
        settled_reason s i acts h.at s.rows.request h.to p n h.command (url_of h.command) x h.from.listed h.from.same (omega arith) refl (inr (h, refl, refl, refl)) (λ is a carried. absurd (never a is carried)) part

    start_reason : (o : OpenCommand) (reservation reference : Option (List ℕ)) → AllOf Why (all_changes ((used p reservation ++ (opened p n o ∷ spent p reference)) ++ []))
    start_reason o None None = (tt, tt)
    start_reason o None (Some x) = (tt, (tt, tt))
    start_reason o (Some id) None = (tt, (tt, tt))
    start_reason o (Some id) (Some x) = (tt, (tt, (tt, tt)))

    decision_reason : (d : Decision) → Tells s h.at h.packet.from n h.command d → IsPart s i acts (decided_acts h.at s.rows.request h.to p n h.command d) →
        AllOf Why (all_changes (decided_acts h.at s.rows.request h.to p n h.command d))
    decision_reason (decision.Refused status) tells part = (tt, tt)
    decision_reason (decision.Answered w) tells part = (tt, tt)
    decision_reason decision.Opened tells part = (tt, (tt, tt))
    decision_reason (decision.Started place reservation) tells part = (tt, start_reason _ reservation (reference_of h.command))
    decision_reason (decision.Resulted x) tells part = (tt, settled_now x (λ a is carried. tells.not_accepted is) (second_part s i acts (reply (decision.Resulted x) ∷ []) _ part))
    decision_reason (decision.Noted id x) tells part =
        (tt, (tt, settled_now x (λ a is carried. subst (IsAbout id) carried tells.about) (second_part s i acts (reply (decision.Noted id x) ∷ (changed (Put (row.Mark p id n)) ∷ [])) _ part)))
    decision_reason (decision.Reserved id r) tells part = (
      tt,
      (
        tt,
        (
          tt,
          settled_now result.Accepted (λ a is carried. (let bad : command.StartSession a ≡ command.ReserveNow tells.reserve = sym carried ∙ tells.command_is in cc))
              (second_part s i acts (reply (decision.Reserved id r) ∷ (changed (Put (row.Mark p id n)) ∷ (changed (Put (row.Reservation p id r)) ∷ []))) _ part),
        ),
      ),
    )
    decision_reason (decision.Cancelled id) tells part = (
      tt,
      (
        tt,
        (
          tt,
          settled_now result.Accepted (λ a is carried. (let bad : command.StartSession a ≡ command.CancelReservation tells.cancel = sym carried ∙ tells.command_is in cc))
              (second_part s i acts (reply (decision.Cancelled id) ∷ (changed (Put (row.Mark p id n)) ∷ (changed (Drop (keys.Reservation p id)) ∷ []))) _ part),
        ),
      ),
    )

    decided_reason : AreReasoned
    decided_reason = just (decided_acts h.at s.rows.request h.to p n h.command h.decision) h.acts_are
        (decision_reason h.decision (all_tell s h.at h.packet.from n h.command h.decision h.it.decides))

  -- an answer
  spent_reason : (p : List ℕ) (reference : Option (List ℕ)) → AllOf Why (all_changes (spent p reference))
  spent_reason p None = tt
  spent_reason p (Some x) = (tt, tt)

  spends : (p : List ℕ) (reference : Option (List ℕ)) (r : List ℕ) → reference ≡ Some r → Contains (all_changes (spent p reference)) (Put (row.Spent p (key r)))
  spends p None r is = none_some r is
  spends p (Some x) r is = let same : x ≡ r = cc in subst (λ z. Contains (all_changes (spent p (Some x))) (Put (row.Spent p (key z)))) same (0, omega arith, refl)

  answer_reason : (at : ℕ) (q : Packet) (w : Awaited) (a : Authorization) (o : Option Beginning) → i ≡ Arrives at q → q.body ≡ body.Authorization a → key w.token.party ≡ key q.from →
      Decided (BeginsByAnswer s.site s.rows w a) o → AnswerActs s at o acts → AreReasoned
  answer_reason at q w a None arrives carries of_provider decided is = just [] is (λ part. tt)
  answer_reason at q w a (Some b) arrives carries of_provider decided (begun, h, is) =
      let n = s.rows.charged.last_session + 1 in
      let p : List ℕ = key b.token.party in
      let spending : List Act = spent p b.authorization_reference in
      let party : key b.token.party ≡ key w.token.party = ap (λ (z : Beginning). key z.token.party) decided.there.begins_is in
      just (numbered_sessions n ∷ (spending ++ begun)) is (λ part.
      let later = second_part s i acts (numbered_sessions n ∷ []) (spending ++ begun) part in (
        omega arith,
        all_acts Why spending begun (spent_reason p b.authorization_reference)
            (begun_reason s i acts at s.rows.request n b begun h (omega arith) (omega arith) n (omega arith) (part.changes (Put (row.Count counter.Session n)) (0, omega arith, refl))
            (reasons.Answer at q decided.allows.timestamp decided.info arrives (carries ∙ ap (λ z. body.Authorization z) decided.allows.done) (sym of_provider ∙ sym party)
            (ap (λ (z : Beginning). z.authorization_reference) decided.there.begins_is)
            (subst (λ (z : Beginning). ¬ IsSpent s.rows.spent (key z.token.party) z.authorization_reference) (sym decided.there.begins_is) decided.unspent)
            (λ r named. (first_part s i acts spending begun later).changes (Put (row.Spent p (key r))) (spends p b.authorization_reference r named)) refl)
            (second_part s i acts spending begun later)),
      ))

  abbrev acts_in : Work → List Act
  acts_in work = work.acts

  token_reason : (at : ℕ) (to sender : List ℕ) (n : ℕ) (t : Token) → TokenLine s at to sender n t acts → AreReasoned
  token_reason at to sender n t (lines.Foreign other is) = just _ is (λ part. (tt, tt))
  token_reason at to sender n t (lines.Kept own old is) = just _ is (λ part. (tt, tt))
  token_reason at to sender n t (lines.Stored own newer is) = just _ is (λ part. (tt, (tt, tt)))

  packet_reason : (at : ℕ) (q : Packet) (to : List ℕ) (work : Work) → i ≡ Arrives at q → IsPeer s.providers q.from to → acts ≡ work.acts → PacketLine s at q to work → AreReasoned
  packet_reason at q to work arrives peer same (lines.Again carries r kept is) = just _ (same ∙ ap acts_in is) (λ part. tt)
  packet_reason at q to work arrives peer same (lines.Decided c d it is) =
      decided_reason (record { at = at; packet = q; arrives = arrives; to = to; from = peer; command = c; decision = d; it = it; acts_are = same ∙ ap acts_in is })
  packet_reason at q to work arrives peer same (lines.Sent t part carries new line is) = token_reason at to (key q.from) q.request t (subst (TokenLine s at to (key q.from) q.request t) (sym (same ∙ ap acts_in is)) line)
  packet_reason at q to work arrives peer same (lines.Acknowledged a carries ends is) =
      just (acknowledged q.request ∷ []) (same ∙ ap acts_in is) (λ part. (reasons.Acknowledged at q a arrives carries ends.0 ends.1 refl, tt))
  packet_reason at q to work arrives peer same (lines.Idle a carries ends is) = just [] (same ∙ ap acts_in is) (λ part. tt)
  packet_reason at q to work arrives peer same (lines.Answered a carries h) =
      answer_reason at q h.awaited a h.begins arrives carries h.stands.of_provider h.decided (subst (AnswerActs s at h.begins) (sym (same ∙ ap acts_in h.work_is)) h.acts_are)
  packet_reason at q to work arrives peer same (lines.Unasked a carries unasked is) = just [] (same ∙ ap acts_in is) (λ part. tt)

  one_end : (e : Ending) → IsToldEnd s i acts e → (f : Ending) → Contains (e ∷ []) f → IsToldEnd s i acts f
  one_end e h f k = subst (IsToldEnd s i acts) (in_single e f k) h

  -- a start that is carried out
  module _ (fine : IsConsistent s) (at : ℕ) (report : ChargerEvent) (e : Ending) (b : Beginning) (h : IsStarted s report e b) where
    abbrev number : ℕ
    number = s.rows.charged.last_session + 1

    abbrev first : Session
    first = first_of s at number b

    started_provider : key first.cdr_token.party ≡ e.provider
    started_provider =
        ap (λ (z : Beginning). key z.token.party) h.begins.begins_is
        ∙ subst (IsOwnStart e.provider) h.begins.command_is (fine.sound.pending e.provider e.number h.command h.stands).own

    started_reference : first.authorization_reference ≡ h.begins.start.authorization_reference
    started_reference = ap (λ (z : Beginning). z.authorization_reference) h.begins.begins_is

    started_for : Contains (all_changes acts) (Put (row.Session first)) → (a : StartSession) → h.command.command ≡ command.StartSession a → BeginsFor s i acts e.provider a
    started_for puts a is =
        let both : command.StartSession h.begins.start ≡ command.StartSession a = sym h.begins.command_is ∙ is in
        let same : h.begins.start ≡ a = cc in
        record {
          session = first;
          puts = puts;
          of_provider = started_provider;
          token_is = ap (λ (z : Beginning). z.token) h.begins.begins_is ∙ ap (λ (z : StartSession). cdr_token_of z.token) same;
          method_is = ap (λ (z : Beginning). z.auth_method) h.begins.begins_is;
          reference_is = started_reference ∙ ap (λ (z : StartSession). z.authorization_reference) same;
          first = refl;
        }

    started_reason : (begun : List Act) → IsBegun s at (s.rows.request + 1) number b begun → acts ≡ numbered_sessions number ∷ (ends_acts at s.rows.commands.pending s.rows.request (e ∷ []) ++ begun) → AreReasoned
    started_reason begun is_begun is =
        let ends : List Act = ends_acts at s.rows.commands.pending s.rows.request (e ∷ []) in
        just (numbered_sessions number ∷ (ends ++ begun)) is (λ part.
        let later = second_part s i acts (numbered_sessions number ∷ []) (ends ++ begun) part in
        let in_ends = first_part s i acts ends begun later in
        let in_begun = second_part s i acts ends begun later in
        let puts = in_begun.changes (Put (row.Session first)) (begun_stored s i acts at (s.rows.request + 1) number b begun is_begun) in (
          omega arith,
          all_acts Why ends begun
              (ends_reason s i acts at s.rows.request (e ∷ [])
              (one_end e (record { end = record { command = h.command; stands = h.stands; of_site = h.of_site }; session = λ accepted a named. started_for puts a named })) (omega arith) in_ends)
              (begun_reason s i acts at (s.rows.request + 1) number b begun is_begun (omega arith) (omega arith) number (omega arith) (part.changes (Put (row.Count counter.Session number)) (0, omega arith, refl))
              (reasons.Start e.provider e.number h.command h.stands started_provider (started_reference ∙ sym (ap reference_of h.begins.command_is))
              (in_ends.changes (Drop (keys.Pending e.provider e.number)) (0, omega arith, refl)) refl)
              in_begun),
        ))

  report_reason : IsConsistent s → (at : ℕ) (report : ChargerEvent) (work : Work) → acts ≡ work.acts → ChargerLine s at report work → AreReasoned
  report_reason fine at report work same (charger.Ended e h is) =
      just (ends_acts at s.rows.commands.pending s.rows.request (e ∷ [])) (same ∙ ap acts_in is) (λ part.
      ends_reason s i acts at s.rows.request (e ∷ []) (one_end e (record {
        end = record { command = h.command; stands = h.stands; of_site = h.of_site };
        session = λ accepted a named. absurd (never_accepted report a (ap (outcome report) (sym named) ∙ h.by.1 ∙ ap (λ z. Some z) accepted));
      })) (omega arith) part)
  report_reason fine at report work same (charger.Started e b begun h is_begun is) = started_reason fine at report e b h begun is_begun (same ∙ ap acts_in is)
  report_reason fine at report work same (charger.Moved part h is) =
      just (h.version_acts ++ h.bill_acts) (same ∙ ap acts_in is ∙ h.acts_are) (λ inside.
      let front = first_part s i acts h.version_acts h.bill_acts inside in
      let back = second_part s i acts h.version_acts h.bill_acts inside in
      let stored = front.changes (Put (row.Session h.after)) (version_stored s i acts at s.rows.request h.after h.version_acts h.versioned) in
      let same_id = moved_id (price_at s.site h.before.start_date_time) at report h.before h.after h.moves.makes in
      all_acts Why h.version_acts h.bill_acts
      (version_reason s i acts at s.rows.request h.after h.version_acts h.versioned (omega arith) front
      (reasons.Goes h.before (ap (λ z. get s.rows.charged.sessions (key z)) same_id ∙ h.moves.here.stands) (billed_by s i acts at (s.rows.request + 1) h.after h.bill_acts h.billed back)))
      (bill_reason s i acts at (s.rows.request + 1) h.after h.bill_acts h.billed (omega arith) back stored))
  report_reason fine at report work same (charger.Begun b begun h is_begun is) =
      let n = s.rows.charged.last_session + 1 in
      just (numbered_sessions n ∷ begun) (same ∙ ap acts_in is) (λ part. (
        omega arith,
        begun_reason s i acts at s.rows.request n b begun is_begun (omega arith) (omega arith) n (omega arith) (part.changes (Put (row.Count counter.Session n)) (0, omega arith, refl))
            (reasons.Other (shown_none s report b h)) (second_part s i acts (numbered_sessions n ∷ []) begun part),
      ))
  report_reason fine at report work same (charger.Asked t location_id place h asked) = just _ (same ∙ ap acts_in asked.work_is) (λ part. tt)
  report_reason fine at report work same (charger.Idle none starts moves h is) = just [] (same ∙ ap acts_in is) (λ part. tt)

  service_reason : (evse : List ℕ) (in_service : Bool) → ServiceLine s evse in_service acts → AreReasoned
  service_reason evse in_service (service.Unknown h is) = just [] is (λ part. tt)
  service_reason evse in_service (service.Unchanged h w is) = just [] is (λ part. tt)
  service_reason evse in_service (service.Withdrawn h o w is) = just _ is (λ part. (tt, tt))
  service_reason evse in_service (service.Restored h o w is) = just _ is (λ part. (tt, tt))

  credit_reason : (at : ℕ) (session : List ℕ) → i ≡ Credits at session → CreditLine s at session acts → AreReasoned
  credit_reason at session ordered (credits.NothingToCredit none is) = just [] is (λ part. tt)
  credit_reason at session ordered (credits.Credited bill to h later is) =
      let x : Cdr = next_credit at bill in
      let n = s.rows.request + 1 in
      just (pushed at n to (push.PostCdr x) ∷ (changed (Put (row.Cdr x)) ∷ [])) is (λ part. (
        record {
          above = omega arith;
          listed = h.of_provider.listed;
          says = part.messages (push_message n to (push.PostCdr x)) (0, omega arith, refl);
          carries = reasons.OfRecord x refl h.of_provider.same (part.changes (Put (row.Cdr x)) (1, omega arith, refl));
        },
        (
          record {
            how = reasons.Credited (record { at = at; session = session; ordered = ordered; bill = bill; to = to; credits = h; later = later; record_is = refl });
            pushed = record { number = n; to = to; of_provider = h.of_provider.same; makes = part.changes (Put (row.Push n to (push.PostCdr x))) (0, omega arith, refl) };
          },
          tt,
        ),
      ))

  -- a moment
  expired_reason : (xs : List Standing) → AllOf Why (all_changes (expired_acts xs))
  expired_reason [] = tt
  expired_reason (x ∷ xs) = (tt, expired_reason xs)

  late_rises : (at last n : ℕ) (ks : List ℕ) (part : List Act) (now : ℕ) → AreLeftUnanswered s at last n ks part now → n ≤ now
  late_rises at last n ks part now (late.None_left l m) = omega arith
  late_rises at last n ks part now (late.Nothing_begins l m k more rest end one later) = late_rises at l m more rest end later
  late_rises at last n ks part now (late.Begins_session l m k more b begun rest end one is later) = let above = late_rises at (l + 1) (m + 1) more rest end later in omega (arith, above)

  without_none : (at k : ℕ) (b : Beginning) → IsLeftUnanswered s at k (Some b) → b.authorization_reference ≡ None
  without_none at k b h = ap (λ (z : Beginning). z.authorization_reference) h.decided.there.begins_is

  late_reason : (at last n : ℕ) (ks : List ℕ) (part : List Act) (now : ℕ) → AreLeftUnanswered s at last n ks part now → s.rows.request ≤ last → s.rows.charged.last_session ≤ n →
      (s.rows.charged.last_session < now → Contains (all_changes acts) (Put (row.Count counter.Session now))) → IsPart s i acts part → AllOf Why (all_changes part)
  late_reason at last n ks part now (late.None_left l m) above given counts inside = tt
  late_reason at last n ks part now (late.Nothing_begins l m k more rest end one later) above given counts inside = late_reason at l m more rest end later above given counts inside
  late_reason at last n ks part now (late.Begins_session l m k more b begun rest end one is later) above given counts inside =
      let rises = late_rises at (l + 1) (m + 1) more rest end later in
      all_acts Why begun rest
      (begun_reason s i acts at l (m + 1) b begun is above (omega (arith, given)) end rises (counts (omega (arith, given, rises))) (reasons.Other (without_none at k b one)) (first_part s i acts begun rest inside))
      (late_reason at (l + 1) (m + 1) more rest end later (omega (arith, above)) (omega (arith, given)) counts (second_part s i acts begun rest inside))

  abbrev counting : ℕ → ℕ → List Act
  counting last now = map changed (count_change counter.Session last now)

  counted_in : (last now : ℕ) → last < now → Contains (all_changes (counting last now)) (Put (row.Count counter.Session now))
  counted_in last now above = elim (nat_eq last now) as (λ b. nat_eq last now ≡ b → Contains (all_changes (map changed (cond b [] (Put (row.Count counter.Session now) ∷ [])))) (Put (row.Count counter.Session now))) [
    | true ↦ λ e. let is : last ≡ now = eqb-true last now e in absurd (omega (arith, is, above))
    | false ↦ λ e. (0, omega arith, refl)
  ] refl

  counted_reason : (now : ℕ) → s.rows.charged.last_session ≤ now → AllOf Why (all_changes (counting s.rows.charged.last_session now))
  counted_reason now above = elim (nat_eq s.rows.charged.last_session now) as (λ b. AllOf Why (all_changes (map changed (cond b [] (Put (row.Count counter.Session now) ∷ []))))) [ true ↦ tt | false ↦ (above, tt) ]

  none_resent : (at : ℕ) (due : List ℕ) (c : Change) → Contains (all_changes (all_resent s.providers at s.rows.pushes due)) c → Why c
  none_resent at due c j = resent_leave s.providers at s.rows.pushes due Why c j

  tick_reason : (at : ℕ) (work : Work) → acts ≡ work.acts → IsTickOf s at work → AreReasoned
  tick_reason at work same h c j =
      let ends : List Act = ends_acts at s.rows.commands.pending s.rows.request h.ends in
      let expiring : List Act = expired_acts h.expired in
      let counts : List Act = counting s.rows.charged.last_session h.now in
      let again : List Act = all_resent s.providers at s.rows.pushes h.due in
      let all : List Act = (ends ++ expiring) ++ ((counts ++ h.begun) ++ again) in
      let is : acts ≡ all = same ∙ ap acts_in h.work_is in
      let whole : IsPart s i acts all = record { changes = λ d k. subst (λ l. Contains (all_changes l) d) (sym is) k; messages = λ m k. subst (λ l. Contains (all_messages l) m) (sym is) k } in
      let front = first_part s i acts (ends ++ expiring) ((counts ++ h.begun) ++ again) whole in
      let middle = first_part s i acts (counts ++ h.begun) again (second_part s i acts (ends ++ expiring) ((counts ++ h.begun) ++ again) whole) in
      let rises = late_rises at (s.rows.request + length h.ends) s.rows.charged.last_session h.late h.begun h.now h.unanswered in
      elim (in_parts (ends ++ expiring) ((counts ++ h.begun) ++ again) c (subst (λ l. Contains (all_changes l) c) is j)) [
        | inl k ↦ all_in Why (all_changes (ends ++ expiring))
            (all_acts Why ends expiring
            (ends_reason s i acts at s.rows.request h.ends (λ e m.
            let stands = timed_open s at h.ends h.timed_out e m in
            let told = h.timed_out.each e m in
            record { end = record { command = stands.0; stands = stands.1; of_site = told.of_site }; session = λ accepted a named. absurd (let bad : result.Timeout ≡ result.Accepted = sym told.result_is ∙ accepted in cc) })
            (omega arith) (first_part s i acts ends expiring front))
            (expired_reason h.expired)) c k
        | inr k ↦ elim (in_parts (counts ++ h.begun) again c k) [
          | inl m ↦ all_in Why (all_changes (counts ++ h.begun))
              (all_acts Why counts h.begun (counted_reason h.now rises)
              (late_reason at (s.rows.request + length h.ends) s.rows.charged.last_session h.late h.begun h.now h.unanswered (omega arith) (omega arith)
              (λ above. (first_part s i acts counts h.begun middle).changes (Put (row.Count counter.Session h.now)) (counted_in s.rows.charged.last_session h.now above))
              (second_part s i acts counts h.begun middle))) c m
          | inr m ↦ none_resent at h.due c m
        ]
      ]

-- what an input asks for has its reasons
pub asked_reason : (s : State) (i : Input) (work : Work) → IsConsistent s → Asks s i work → (c : Change) → Contains (all_changes work.acts) c → Reason s i work.acts c
asked_reason s (Arrives at q) work fine comes = packet_reason s (Arrives at q) work.acts at q comes.provider work refl comes.from refl comes.line
asked_reason s (Serves evse in_service) work fine (part, line, is) =
    service_reason s (Serves evse in_service) work.acts evse in_service (subst (λ (w : Work). ServiceLine s evse in_service w.acts) (sym is) line)
asked_reason s (Reports at report) work fine line = report_reason s (Reports at report) work.acts fine at report work refl line
asked_reason s (Credits at session) work fine (part, line, is) =
    credit_reason s (Credits at session) work.acts at session refl (subst (λ (w : Work). CreditLine s at session w.acts) (sym is) line)
asked_reason s (Ticks at) work fine line = tick_reason s (Ticks at) work.acts at work refl ((stages_see s at work fine).0 line)
asked_reason s Restarts work fine line = absurd line
asked_reason s (Reopens other) work fine line = absurd line
