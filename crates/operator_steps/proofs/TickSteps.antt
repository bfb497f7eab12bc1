-- The step of a moment may be carried out.
use Rattle.std.proofs.Common.{◌≡◌, ◌≢◌, ◌<◌, ◌≤◌, ◌+◌, ◌++◌, ◌⊎◌, ℕ, true, false, cond, nat_eq, List, [], ◌∷◌, map, length, inl, inr, refl, sym, ap, subst, ◌∙◌, arith}
use Rattle.std.specs.Prelude.{Contains, IsTrue}
use Rattle.std.specs.FinMap.{contains_key}
use Rattle.std.specs.List.{AllPairs}
use Rattle.std.specs.declared.cmp.Ordering.TheVariants.{Less}
use Rattle.std.proofs.lemmas.Bool.{eqb-true}
use Rattle.std.proofs.lemmas.List.{length-append}
use Rattle.std.proofs.lemmas.List.Elements.{All-contains, Contains-append_cases, Contains-append_left, Contains-append_right}
use Rattle.std.proofs.lemmas.List.Kept.{AllPairs-cons}
use Rattle.tables.specs.Keys.{text_number_cmp, text_number_total}
use Rattle.tables.proofs.Elements.{in_none, in_front, in_map, all_of, no_pairs, first_pairs, later_pairs}
use Rattle.tables.proofs.Entries.{apart_of_less}
use Rattle.ocpi_text.specs.Whole.{max_whole}
use Rattle.ocpi_types.specs.declared.rows.Change.{Change}
use Rattle.ocpi_types.specs.declared.rows.Change.TheVariants.{Put}
use Rattle.ocpi_types.specs.declared.rows.Counter.TheVariants as counter
use Rattle.ocpi_types.specs.declared.rows.Row.TheVariants as row
use Rattle.ocpi_types.specs.declared.rows.RowKey.TheVariants as keys
use Rattle.authorization_book.specs.Waits.{evse_of}
use Rattle.outbox.specs.Outbox as outbox
use Rattle.outbox.specs.Pushes.{IsAbout}
use Rattle.reservation_book.specs.declared.standing.Standing.{Standing}
use Rattle.session_book.specs.Stored as charged
use Rattle.node_steps.specs.declared.plan.Volatile.{Volatile}
use Rattle.node_steps.specs.Acts.{Act, all_changes, all_messages, all_requests, all_volatile, changed}
use Rattle.node_steps.specs.Drafts.{count_change}
use Rattle.node_steps.proofs.Gathering.{changes_append, messages_append, requests_append, volatile_append}
use Rattle.operator_rows.specs.State.{State, Rows}
use Rattle.operator_rows.specs.Sound.{IsConsistent, IsSound, with_rows}
use Rattle.operator_rows.specs.Stored.{change_key, changed_all}
use Rattle.operator_rows.specs.Steps.{number_of}
use Rattle.operator_steps.specs.declared.ending.Ending.{Ending}
use Rattle.operator_steps.specs.Ends.{IsOpen, all_resent, ends_acts, expired_acts}
use Rattle.operator_steps.specs.Moves.{AreInRange, Work}
use Rattle.operator_steps.specs.Tick.{TimeOut, request_of}
use Rattle.operator_steps.specs.TickFacts.{IsStillDue, IsTickOf, tick_acts}
use Rattle.operator_steps.specs.Facts.{TicksMayFollow}
use Rattle.operator_steps.proofs.AnswerSteps.{unsent_front}
use Rattle.operator_steps.proofs.BegunChanges.{IsOfLate, late_above, late_asks, late_counts, late_request, of_late, session_subject}
use Rattle.operator_steps.proofs.Charging.{AreNext, next_append, next_kinds}
use Rattle.operator_steps.proofs.DecidedSteps.{claim_of_same}
use Rattle.operator_steps.proofs.Orderly.{AreOrderly, AreOther, of_counter, orderly_append}
use Rattle.operator_steps.proofs.Fitting.{AreFit, changed_append, fit_append, left_by, left_is, numbered_for}
use Rattle.operator_steps.proofs.Freeing.{AreLeft, are_left, claim_before, claim_lasts, ends_booked, ends_charged, ends_numbers, ends_service, expired_numbers, expired_charged, expired_pushes, open_left}
use Rattle.operator_steps.proofs.LateFit.{AreReady}
use Rattle.operator_steps.proofs.LateSteps.{late_leaves}
use Rattle.operator_steps.proofs.Sending.{ActsAreSent, LeavesPush, sent_append}
use Rattle.operator_steps.proofs.Planning.{IsPlanned, may_follow_full}
use Rattle.operator_steps.proofs.Ends.{AreOfDifferent, end_no_reservation, end_push, ends_ask, ends_orderly, ends_send, of_ends}
use Rattle.operator_steps.proofs.EndsFit.{MayAllEnd, may_numbered, ends_above, ends_fit, ends_leave, ends_next, ends_sent, may_end}
use Rattle.operator_steps.proofs.Expiring.{expired_ask, expired_differ, expired_fit, expired_orderly, expired_send, expired_sent, expired_untold, of_expired}
use Rattle.operator_steps.proofs.Resending.{of_resent, resent_ask, resent_changes, resent_fit, resent_leave, resent_orderly, resent_send, resent_sent}
use Rattle.operator_steps.proofs.TickParts.{AreLatePlanned, counts_acts, counts_ask, counts_fit, counts_leave, counts_next, counts_orderly, counts_send, counts_without, end_no_count, ends_wait, ends_within, expired_next, late_no_end, late_no_expiry, late_other, late_planned, none_begins, session_counted, still_awaited}
use Rattle.operator_steps.proofs.TickStages.{counter_changes, counter_untold, due_given, result_about, tick_parts}

-- commands that time out are named once
requests_differ : (ends : List Ending) → AllPairs (λ a b. text_number_cmp a b ≡ Less) (map request_of ends) → AreOfDifferent ends
requests_differ [] h = no_pairs (λ a b. request_of a ≢ request_of b)
requests_differ (e ∷ es) h =
    AllPairs-cons (λ a b. request_of a ≢ request_of b) e es
    (all_of (λ b. request_of e ≢ request_of b) es (λ f i. apart_of_less text_number_total (request_of e) (request_of f)
    (All-contains (λ b. text_number_cmp (request_of e) b ≡ Less) (map request_of es) (request_of f)
    (first_pairs (λ a b. text_number_cmp a b ≡ Less) (request_of e) (map request_of es) h) (in_map request_of es f i))))
    (requests_differ es (later_pairs (λ a b. text_number_cmp a b ≡ Less) (request_of e) (map request_of es) h))

-- they are open
pub timed_open : (s : State) (at : ℕ) (ends : List Ending) → TimeOut s at ends → (e : Ending) → Contains ends e → IsOpen s.rows e
timed_open s at ends h e i = let due = (h.due.exact (request_of e)).0 (in_map request_of ends e i) in (due.command, due.stands)

-- and may end
pub timed_may : (s : State) (at : ℕ) (ends : List Ending) → IsSound s → TimeOut s at ends → MayAllEnd s ends
timed_may s at ends sound h = record {
  each = λ e i. may_end s e sound (timed_open s at ends h e i) (h.each e i).of_site;
  differ = requests_differ ends h.due.in_order;
}

-- how many packets and requests a moment takes
module _ (s : State) (at : ℕ) (ends : List Ending) (expired : List Standing) (now : ℕ) (begun : List Act) (due : List ℕ) where
  abbrev first : List Act
  first = ends_acts at s.rows.commands.pending s.rows.request ends

  abbrev counts : List Act
  counts = counts_acts s.rows.charged.last_session now

  abbrev again : List Act
  again = all_resent s.providers at s.rows.pushes due

  pub tick_ask : all_requests (tick_acts at s ends expired now begun due) ≡ length ends + all_requests begun
  tick_ask =
      let all = requests_append (first ++ expired_acts expired) ((counts ++ begun) ++ again) in
      let front = requests_append first (expired_acts expired) in
      let back = requests_append (counts ++ begun) again in
      let mid = requests_append counts begun in
      let one = ends_ask at s.rows.commands.pending s.rows.request ends in
      let two = expired_ask expired in
      let three = counts_ask s.rows.charged.last_session now in
      let four = resent_ask s.providers at s.rows.pushes due in
      omega (arith, all, front, back, mid, one, two, three, four)

  pub tick_send : ((n : ℕ) → Contains due n → IsTrue (contains_key s.rows.pushes n)) → length (all_messages (tick_acts at s ends expired now begun due)) ≡ length ends + length (all_messages begun) + length due
  tick_send stand =
      let all = ap length (messages_append (first ++ expired_acts expired) ((counts ++ begun) ++ again)) ∙ length-append (all_messages (first ++ expired_acts expired)) (all_messages ((counts ++ begun) ++ again)) in
      let front = ap length (messages_append first (expired_acts expired)) ∙ length-append (all_messages first) (all_messages (expired_acts expired)) in
      let back = ap length (messages_append (counts ++ begun) again) ∙ length-append (all_messages (counts ++ begun)) (all_messages again) in
      let mid = ap length (messages_append counts begun ∙ ap (λ l. l ++ all_messages begun) (counts_send s.rows.charged.last_session now)) in
      let one = ends_send at s.rows.commands.pending s.rows.request ends in
      let two = expired_send expired in
      let four = resent_send s.providers at s.rows.pushes due stand in
      omega (arith, all, front, back, mid, one, two, four)

module _ (s : State) (at : ℕ) (work : Work) (fine : IsConsistent s) (range : AreInRange s work.acts) (h : IsTickOf s at work) where
  abbrev ends_part : List Act
  ends_part = ends_acts at s.rows.commands.pending s.rows.request h.ends

  abbrev expiry_part : List Act
  expiry_part = expired_acts h.expired

  abbrev counts_part : List Act
  counts_part = counts_acts s.rows.charged.last_session h.now

  abbrev resend_part : List Act
  resend_part = all_resent s.providers at s.rows.pushes h.due

  abbrev front_part : List Act
  front_part = ends_part ++ expiry_part

  abbrev begin_part : List Act
  begin_part = counts_part ++ h.begun

  abbrev back_part : List Act
  back_part = begin_part ++ resend_part

  abbrev all_parts : List Act
  all_parts = tick_acts at s h.ends h.expired h.now h.begun h.due

  -- the number of the last request before sessions begin
  abbrev last : ℕ
  last = s.rows.request + length h.ends

  may : MayAllEnd s h.ends
  may = timed_may s at h.ends fine.sound h.timed_out

  counted_on : s.rows.charged.last_session ≤ h.now
  counted_on = late_counts s at last s.rows.charged.last_session h.late h.begun h.now h.unanswered

  -- a number that is given is none past the last
  in_range : s.rows.charged.last_session < h.now → h.now ≤ max_whole
  in_range above = elim (nat_eq s.rows.charged.last_session h.now) as (λ b. nat_eq s.rows.charged.last_session h.now ≡ b → h.now ≤ max_whole) [
    | true ↦ λ e. let same = eqb-true s.rows.charged.last_session h.now e in absurd (omega (arith, same, above))
    | false ↦ λ e.
        let put = Put (row.Count counter.Session h.now) in
        let one : Contains (all_changes counts_part) put = subst (λ b. Contains (all_changes (map changed (cond b [] (put ∷ [])))) put) (sym e) (in_front put []) in
        let two = subst (λ l. Contains l put) (sym (changes_append counts_part h.begun)) (Contains-append_left (all_changes counts_part) (all_changes h.begun) put one) in
        let three = subst (λ l. Contains l put) (sym (changes_append begin_part resend_part)) (Contains-append_left (all_changes begin_part) (all_changes resend_part) put two) in
        let four = subst (λ l. Contains l put) (sym (changes_append front_part back_part)) (Contains-append_right (all_changes front_part) (all_changes back_part) put three) in
        range.numbers counter.Session h.now (subst (λ (w : Work). Contains (all_changes w.acts) put) (sym h.work_is) four)
  ] refl

  late : AreLatePlanned s at last s.rows.charged.last_session h.late h.begun h.now
  late = late_planned s at last s.rows.charged.last_session h.late h.begun h.now fine h.unanswered in_range (omega arith) (omega arith) h.are_late.in_order

  -- a change of the sessions that begin, or of their counter
  abbrev IsOfBegin : Change → Type 0
  IsOfBegin c = Contains (count_change counter.Session s.rows.charged.last_session h.now) c ⊎ Contains (all_changes h.begun) c

  of_begin : (c : Change) → Contains (all_changes begin_part) c → IsOfBegin c
  of_begin c i = Contains-append_cases (count_change counter.Session s.rows.charged.last_session h.now) (all_changes h.begun) c
      (subst (λ l. Contains l c) (changes_append counts_part h.begun ∙ ap (λ l. l ++ all_changes h.begun) (counter_changes s.rows.charged.last_session h.now)) i)

  of_back : (c : Change) → Contains (all_changes back_part) c → IsOfBegin c
  of_back c i = elim (Contains-append_cases (all_changes begin_part) (all_changes resend_part) c (subst (λ l. Contains l c) (changes_append begin_part resend_part) i)) [
    | inl j ↦ of_begin c j
    | inr j ↦ resent_leave s.providers at s.rows.pushes h.due IsOfBegin c j
  ]

  -- a change of what comes first is one of an end or of an expiry
  of_front : (c : Change) → Contains (all_changes front_part) c → Contains (all_changes ends_part) c ⊎ Contains (all_changes expiry_part) c
  of_front c i = Contains-append_cases (all_changes ends_part) (all_changes expiry_part) c (subst (λ l. Contains l c) (changes_append ends_part expiry_part) i)

  -- ends and expiries are of different rows
  front_other : AreOther (all_changes ends_part) (all_changes expiry_part)
  front_other c d i j same =
      let x = of_expired h.expired d j in
      end_no_reservation s.rows.request h.ends (change_key c) x.0.provider x.0.id (of_ends at s.rows.commands.pending s.rows.request h.ends c i) (sym x.2 ∙ same)

  front_orderly : AreOrderly front_part
  front_orderly = orderly_append ends_part expiry_part (ends_orderly at s.rows.commands.pending s.rows.request h.ends may.differ)
      (expired_orderly h.expired (expired_differ at s.rows.booked.reservations h.expired h.have_expired)) front_other

  -- and the counter is none of them
  front_uncounted : (c : Change) → Contains (all_changes front_part) c → change_key c ≢ keys.Count counter.Session
  front_uncounted c i same = elim (of_front c i) [
    | inl j ↦ end_no_count s.rows.request h.ends (change_key c) (of_ends at s.rows.commands.pending s.rows.request h.ends c j) same
    | inr j ↦ let x = of_expired h.expired c j in let never : keys.Reservation x.0.provider x.0.id ≡ keys.Count counter.Session = sym x.2 ∙ same in absurd (cc)
  ]

  is_count : (c : Change) → Contains (count_change counter.Session s.rows.charged.last_session h.now) c → change_key c ≡ keys.Count counter.Session
  is_count c i = of_counter counter.Session s.rows.charged.last_session h.now c i

  is_late : (c : Change) → Contains (all_changes h.begun) c → IsOfLate s at last s.rows.charged.last_session h.late h.now c
  is_late c i = of_late s at last s.rows.charged.last_session h.late h.begun h.now h.unanswered c i

  begin_other : AreOther (all_changes counts_part) (all_changes h.begun)
  begin_other c d i j same =
      let count = is_count c (subst (λ l. Contains l c) (counter_changes s.rows.charged.last_session h.now) i) in
      late_other s at last s.rows.charged.last_session h.late h.now d (keys.Count counter.Session) (is_late d j) refl (same ∙ count)

  begin_orderly : AreOrderly begin_part
  begin_orderly = orderly_append counts_part h.begun (counts_orderly s.rows.charged.last_session h.now) late.orderly begin_other

  back_other : AreOther (all_changes front_part) (all_changes back_part)
  back_other c d i j same = elim (of_back d j) [
    | inl k ↦ front_uncounted c i (sym same ∙ is_count d k)
    | inr k ↦ elim (of_front c i) [
      | inl e ↦ late_no_end s at s.rows.charged.last_session h.late h.now h.ends d (change_key c) fine (is_late d k) (of_ends at s.rows.commands.pending s.rows.request h.ends c e) same
      | inr e ↦ let x = of_expired h.expired c e in late_no_expiry s at last s.rows.charged.last_session h.late h.now h.expired d x.0 h.have_expired x.1 (is_late d k) (same ∙ x.2)
    ]
  ]

  parts_orderly : AreOrderly all_parts
  parts_orderly = orderly_append front_part back_part front_orderly
      (orderly_append begin_part resend_part begin_orderly (resent_orderly s.providers at s.rows.pushes h.due) (λ c d i j. resent_leave s.providers at s.rows.pushes h.due (λ e. change_key e ≢ change_key c) d j))
      back_other

  -- the state with the counters that the step comes to, and its rows once commands and reservations have ended
  abbrev start : State
  start = numbered_for all_parts s

  abbrev ended_rows : Rows
  ended_rows = changed_all (all_changes ends_part) start.rows

  abbrev freed_rows : Rows
  freed_rows = changed_all (all_changes expiry_part) ended_rows

  freed_is : left_by front_part start ≡ with_rows freed_rows s
  freed_is = left_is front_part start
      ∙ ap (λ r. with_rows r s) (ap (λ cs. changed_all cs start.rows) (changes_append ends_part expiry_part) ∙ changed_append (all_changes ends_part) (all_changes expiry_part) start.rows)

  freed_charged : freed_rows.charged ≡ s.rows.charged
  freed_charged = expired_charged h.expired ended_rows ∙ ends_charged at s.rows.commands.pending s.rows.request h.ends start.rows

  freed_left : AreLeft s.rows at freed_rows
  freed_left = are_left s at h.ends h.timed_out h.expired h.have_expired ended_rows (ends_service at s.rows.commands.pending s.rows.request h.ends start.rows)
      (ends_charged at s.rows.commands.pending s.rows.request h.ends start.rows) (ends_booked at s.rows.commands.pending s.rows.request h.ends start.rows)
      (open_left s at h.ends h.timed_out h.expired h.have_expired s.rows.request start.rows refl)

  freed_ready : AreReady s at last s.rows.charged.last_session h.late h.now (session_counted freed_rows h.now)
  freed_ready =
      let request = expired_numbers h.expired ended_rows ∙ ends_numbers at s.rows.commands.pending s.rows.request h.ends start.rows in
      let asked = tick_ask s at h.ends h.expired h.now h.begun h.due in
      let each = late_asks s at last s.rows.charged.last_session h.late h.begun h.now h.unanswered in
      record {
        requests = omega (arith, request, asked, each);
        numbers = omega arith;
        claims = λ k i w stands d claim.
            let before = claim_of_same (session_counted freed_rows h.now) freed_rows (evse_of w) d refl refl refl claim in
            (claim_before s.rows at freed_rows freed_left (evse_of w) d before, claim_lasts s.rows at freed_rows freed_left (evse_of w) d before);
        pushes = λ m above below q about. result_about at s.rows.commands.pending s.rows.request h.ends start.rows (session_subject s m) q
            (subst (λ x. IsAbout x (session_subject s m) q) (expired_pushes h.expired ended_rows) about);
      }

  -- sessions begin once their counter is stored
  numbered_is : left_by counts_part (with_rows freed_rows s) ≡ with_rows (session_counted freed_rows h.now) s
  numbered_is = left_is counts_part (with_rows freed_rows s)
      ∙ ap (λ r. with_rows r s) (ap (λ cs. changed_all cs freed_rows) (counter_changes s.rows.charged.last_session h.now)
      ∙ counts_leave freed_rows s.rows.charged.last_session h.now (sym (ap (λ (c : charged.Rows). c.last_session) freed_charged)))

  begin_fit : AreFit (left_by front_part start) begin_part
  begin_fit =
      subst (λ t. AreFit t begin_part) (sym freed_is)
      (fit_append counts_part h.begun (with_rows freed_rows s) (counts_fit s freed_rows h.now fine freed_charged counted_on)
      (subst (λ t. AreFit t h.begun) (sym numbered_is) (late.fit (session_counted freed_rows h.now) freed_ready)))

  parts_fit : AreFit start all_parts
  parts_fit =
      let asked = tick_ask s at h.ends h.expired h.now h.begun h.due in
      fit_append front_part back_part start
      (fit_append ends_part expiry_part start
      (ends_fit at s.rows.commands.pending s.rows.request h.ends start (may_numbered s all_parts h.ends may) (omega (arith, asked)))
      (expired_fit h.expired (left_by ends_part start)))
      (fit_append begin_part resend_part (left_by front_part start) begin_fit (resent_fit s.providers at s.rows.pushes h.due (left_by begin_part (left_by front_part start))))

  -- the numbers of what is sent: of results, of sessions that begin, and of what is sent again
  front_bounds : (v : Volatile) → Contains (all_volatile front_part) v → (s.rows.request < number_of v) × (number_of v ≤ last)
  front_bounds v i = elim (Contains-append_cases (all_volatile ends_part) (all_volatile expiry_part) v (subst (λ l. Contains l v) (volatile_append ends_part expiry_part) i)) [
    | inl j ↦ (ends_above at s.rows.commands.pending s.rows.request h.ends v j, ends_within at s.rows.commands.pending s.rows.request h.ends v j)
    | inr j ↦ absurd (in_none v (subst (λ l. Contains l v) (expired_untold h.expired) j))
  ]

  begin_above : (v : Volatile) → Contains (all_volatile begin_part) v → last < number_of v
  begin_above v i = late_above s at last s.rows.charged.last_session h.late h.begun h.now h.unanswered v
      (subst (λ l. Contains l v) (volatile_append counts_part h.begun ∙ ap (λ l. l ++ all_volatile h.begun) (counter_untold s.rows.charged.last_session h.now)) i)

  again_due : (v : Volatile) → Contains (all_volatile resend_part) v → IsStillDue s at h.begun (number_of v)
  again_due v i = (h.are_due.exact (number_of v)).0 (of_resent s.providers at s.rows.pushes h.due v i).0

  again_given : (v : Volatile) → Contains (all_volatile resend_part) v → number_of v ≤ s.rows.request
  again_given v i = due_given s at (number_of v) fine (again_due v i).due

  of_back_volatile : (v : Volatile) → Contains (all_volatile back_part) v → Contains (all_volatile begin_part) v ⊎ Contains (all_volatile resend_part) v
  of_back_volatile v i = Contains-append_cases (all_volatile begin_part) (all_volatile resend_part) v (subst (λ l. Contains l v) (volatile_append begin_part resend_part) i)

  -- the counter is no push, and neither is a reservation
  count_no_push : (n : ℕ) (c : Change) → Contains (count_change counter.Session s.rows.charged.last_session h.now) c → change_key c ≢ keys.Push n
  count_no_push n c i same = let never : keys.Count counter.Session ≡ keys.Push n = sym (is_count c i) ∙ same in absurd (cc)

  expiries_leave : (n : ℕ) → LeavesPush n (all_changes expiry_part)
  expiries_leave n c i same =
      let x = of_expired h.expired c i in
      let never : keys.Reservation x.0.provider x.0.id ≡ keys.Push n = sym x.2 ∙ same in
      absurd (cc)

  front_sent : ActsAreSent s front_part
  front_sent = sent_append ends_part expiry_part s (ends_sent at s.rows.commands.pending s fine s.rows.request h.ends (omega arith)) (expired_sent s h.expired)
      (λ v i. expiries_leave (number_of v))
      (λ v i. absurd (in_none v (subst (λ l. Contains l v) (expired_untold h.expired) i)))
      (λ v w i j. absurd (in_none w (subst (λ l. Contains l w) (expired_untold h.expired) j)))

  begin_sent : ActsAreSent s begin_part
  begin_sent = unsent_front counts_part h.begun s (counter_untold s.rows.charged.last_session h.now) (counts_without s.rows.charged.last_session h.now 7 refl) late.sent

  -- sessions that begin leave what is sent again
  begin_leaves : (v : Volatile) → Contains (all_volatile resend_part) v → LeavesPush (number_of v) (all_changes begin_part)
  begin_leaves v i c j same = elim (of_begin c j) [
    | inl k ↦ count_no_push (number_of v) c k same
    | inr k ↦ elim (late_request s at last s.rows.charged.last_session h.late h.begun h.now h.unanswered c k (number_of v) (ap outbox.request_of same)) [
      | inl is ↦ (again_due v i).unreplaced (subst (Contains (all_changes h.begun)) is k)
      | inr above ↦ let old = again_given v i in omega (arith, above, old)
    ]
  ]

  back_sent : ActsAreSent s back_part
  back_sent = sent_append begin_part resend_part s begin_sent (resent_sent at s h.due h.are_due.in_order)
      (λ v i c j. resent_leave s.providers at s.rows.pushes h.due (λ d. change_key d ≢ keys.Push (number_of v)) c j)
      begin_leaves
      (λ v w i j same. let above = begin_above v i in let old = again_given w j in omega (arith, above, old, same))

  -- what sessions that begin change is not sent before, and what comes before leaves what is sent then
  back_leaves : (v : Volatile) → Contains (all_volatile front_part) v → LeavesPush (number_of v) (all_changes back_part)
  back_leaves v i c j same = elim (of_back c j) [
    | inl k ↦ count_no_push (number_of v) c k same
    | inr k ↦ let bounds = front_bounds v i in late_leaves s fine at last s.rows.charged.last_session h.late h.now c (number_of v) (is_late c k) bounds.0 bounds.1 same
  ]

  front_leaves : (n : ℕ) → (last < n) ⊎ (n ≤ s.rows.request) → LeavesPush n (all_changes front_part)
  front_leaves n known c j same = elim (of_front c j) [
    | inl e ↦ elim known [
      | inl above ↦ let bounds = end_push s.rows.request h.ends (change_key c) n (of_ends at s.rows.commands.pending s.rows.request h.ends c e) same in omega (arith, above, bounds.1)
      | inr old ↦ ends_leave at s.rows.commands.pending s.rows.request h.ends n old c e same
    ]
    | inr e ↦ expiries_leave n c e same
  ]

  back_known : (v : Volatile) → Contains (all_volatile back_part) v → (last < number_of v) ⊎ (number_of v ≤ s.rows.request)
  back_known v i = elim (of_back_volatile v i) [ inl j ↦ inl (begin_above v j) | inr j ↦ inr (again_given v j) ]

  parts_sent : ActsAreSent s all_parts
  parts_sent = sent_append front_part back_part s front_sent back_sent back_leaves (λ v i. front_leaves (number_of v) (back_known v i))
      (λ v w i j same.
      let bounds = front_bounds v i in
      elim (back_known w j) [
        | inl above ↦ omega (arith, above, bounds.1, same)
        | inr old ↦ omega (arith, old, bounds.0, same)
      ])

  parts_next : AreNext s (all_changes all_parts)
  parts_next =
      let front = next_append s (all_changes ends_part) (all_changes expiry_part) (ends_next at s.rows.commands.pending s s.rows.request h.ends) (expired_next s h.expired) in
      let begin = next_append s (all_changes counts_part) (all_changes h.begun) (counts_next s s.rows.charged.last_session h.now) late.next in
      let none = subst (AreNext s) (sym (resent_changes s.providers at s.rows.pushes h.due)) (next_kinds s [] refl refl) in
      let back = next_append s (all_changes begin_part) (all_changes resend_part) (subst (AreNext s) (sym (changes_append counts_part h.begun)) begin) none in
      subst (AreNext s) (sym (changes_append front_part back_part))
      (next_append s (all_changes front_part) (all_changes back_part) (subst (AreNext s) (sym (changes_append ends_part expiry_part)) front) (subst (AreNext s) (sym (changes_append begin_part resend_part)) back))

  -- what a moment comes to may be carried out
  pub parts_planned : IsPlanned s work
  parts_planned = subst (IsPlanned s) (sym h.work_is) (record {
    acts = record { orderly = parts_orderly; fit = parts_fit; sent = parts_sent; next = parts_next };
    waits = ends_wait s.waits h.late;
    awaited = λ n w i. absurd (none_begins h.late n w i);
    asked = λ n has. let given = fine.asked n (still_awaited s.waits h.late n has) in omega (arith, given);
  })

pub ticks : TicksMayFollow
ticks at s work fine line in_range = may_follow_full s work fine (parts_planned s at work fine in_range (tick_parts s at fine work line))
