-- The stages of a moment: each sees, of what it reads, what stood before the moment.
use Rattle.std.proofs.Common.{◌≡◌, ◌≢◌, ◌<◌, ◌≤◌, ◌+◌, ◌++◌, ◌↔◌, ℕ, true, false, cond, nat_eq, List, [], ◌∷◌, length, map, inl, inr, refl, sym, ap, subst, ◌∙◌, arith}
use Rattle.std.specs.Prelude.{Option, Some, None, Contains, IsTrue, is_some}
use Rattle.std.specs.Cmp.{nat_cmp_total}
use Rattle.std.specs.Ordering.{nat_cmp}
use Rattle.std.specs.FinMap.{get, contains_key, get-empty, nat_cmp-IsAntisymmetric}
use Rattle.std.proofs.lemmas.List.{append_assoc, append-nil}
use Rattle.std.proofs.lemmas.List.Elements.{Contains-append_cases}
use Rattle.tables.proofs.Elements.{in_none, in_front}
use Rattle.tables.proofs.Maps.{get-insert_other, get-remove_other, of_insert}
use Rattle.tables.proofs.Options.{none_some, none_contained, not_both}
use Rattle.ocpi_types.specs.declared.rows.Change.{Change}
use Rattle.ocpi_types.specs.declared.rows.Change.TheVariants.{Put, Drop}
use Rattle.ocpi_types.specs.declared.rows.Counter.TheVariants as counter
use Rattle.ocpi_types.specs.declared.rows.Row.TheVariants as row
use Rattle.ocpi_types.specs.declared.rows.RowKey.{RowKey}
use Rattle.ocpi_types.specs.declared.rows.RowKey.TheVariants as keys
use Rattle.authorization_book.specs.Waits as waits
use Rattle.authorization_book.specs.declared.waiting.Waiting.TheVariants.{Ends}
use Rattle.command_book.specs.Stored as book
use Rattle.outbox.specs.Outbox as outbox
use Rattle.outbox.specs.Pushes.{IsAbout, Pushes, subject_of}
use Rattle.outbox.specs.Due.{AreExactly, IsDue}
use Rattle.outbox.specs.Resend.{Resend, due_again}
use Rattle.outbox.specs.declared.push_book.Subject.{Subject}
use Rattle.reservation_book.specs.Calls.{AreExpired}
use Rattle.reservation_book.specs.Rows as booked
use Rattle.reservation_book.specs.declared.standing.Standing.{Standing}
use Rattle.session_book.specs.Stored as charged
use Rattle.node_steps.specs.declared.plan.Volatile.{Volatile}
use Rattle.node_steps.specs.declared.plan.Volatile.TheVariants.{Sent}
use Rattle.node_steps.specs.Acts.{Act, all_changes, all_volatile, changed}
use Rattle.node_steps.specs.Drafts.{count_change, count_changes, counted}
use Rattle.node_steps.proofs.Gathering.{changes_append, volatile_append}
use Rattle.operator_rows.specs.State.{State, Rows, as_outbox}
use Rattle.operator_rows.specs.Sound.{IsConsistent}
use Rattle.operator_rows.specs.Stored.{change_key, changed_all}
use Rattle.operator_rows.specs.Steps.{number_of, timed, timed_all, untimed, untimed_all}
use Rattle.operator_steps.specs.declared.ending.Ending.{Ending}
use Rattle.operator_steps.specs.Asking.{AreUnanswered, Deadlines}
use Rattle.operator_steps.specs.Moves.{Quietly, Stage, Stages, Work, acted, and_then, counters_of, quiet, step_of_acts}
use Rattle.operator_steps.specs.Ends.{all_resent, end_acts, ends_acts, expired_acts, resent_acts}
use Rattle.operator_steps.specs.Tick.{Expiries, IsToResend, Resends, TickLine, TimeOut, Timeouts}
use Rattle.operator_steps.specs.TickFacts.{AreLeftUnanswered, IsStillDue, IsTickOf, StagesSeeStart, tick_acts}
use Rattle.operator_steps.proofs.Orderly.{in_later, of_counter, of_counters}
use Rattle.operator_steps.proofs.Fitting.{changed_append, numbered_for, rows_after}
use Rattle.operator_steps.proofs.Sending.{push_stays}
use Rattle.operator_steps.proofs.Ends.{IsOfEnd, Opened, Pushed, Ended, ends_ask, of_ends}
use Rattle.operator_steps.proofs.EndsFit.{ends_above}
use Rattle.operator_steps.proofs.Expiring.{expired_ask, expired_untold, of_expired}
use Rattle.operator_steps.proofs.Freeing.{AreLeft, are_left, ends_booked, ends_charged, ends_numbers, ends_service, expired_numbers, expired_charged, expired_pushes, open_left}
use Rattle.operator_steps.proofs.LeftUnanswered.{all_before, all_seen}
use Rattle.operator_steps.proofs.BegunChanges.{late_above, late_gone, late_request}

-- the acts leave the request of that number as it is, and the moment from which on it is due again
pub record LeavesRequest (n : ℕ) (acts : List Act) : Type 0 where
  pub changes : (c : Change) → Contains (all_changes acts) c → outbox.request_of (change_key c) ≢ Some n
  pub volatile : (v : Volatile) → Contains (all_volatile acts) v → number_of v ≢ n

one_untimed : (o : Option ℕ) (m : Resend) (n : ℕ) → o ≢ Some n → get (outbox.without o m) n ≡ get m n
one_untimed None m n h = refl
one_untimed (Some k) m n h = get-remove_other nat_cmp_total nat_cmp-IsAntisymmetric m k n (λ same. h (ap (λ z. Some z) (sym same)))

untimed_keep : (cs : List Change) (m : Resend) (n : ℕ) → ((c : Change) → Contains cs c → outbox.request_of (change_key c) ≢ Some n) → get (untimed_all cs m) n ≡ get m n
untimed_keep [] m n h = refl
untimed_keep (c ∷ cs) m n h = untimed_keep cs (untimed c m) n (λ d i. h d (in_later c cs d i)) ∙ one_untimed (outbox.request_of (change_key c)) m n (h c (in_front c cs))

one_timed : (v : Volatile) (m : Resend) (n : ℕ) → number_of v ≢ n → get (timed v m) n ≡ get m n
one_timed (Sent k at) m n h = get-insert_other nat_cmp_total nat_cmp-IsAntisymmetric m k (due_again at) n (λ same. h (sym same))

timed_keep : (vs : List Volatile) (m : Resend) (n : ℕ) → ((v : Volatile) → Contains vs v → number_of v ≢ n) → get (timed_all vs m) n ≡ get m n
timed_keep [] m n h = refl
timed_keep (v ∷ vs) m n h = timed_keep vs (timed v m) n (λ w i. h w (in_later v vs w i)) ∙ one_timed v m n (h v (in_front v vs))

module _ (s : State) (work : Work) (n : ℕ) (h : LeavesRequest n work.acts) where
  step_leaves : (c : Change) → Contains (step_of_acts s work.acts).changes c → outbox.request_of (change_key c) ≢ Some n
  step_leaves c i same = elim (Contains-append_cases (count_changes (counters_of s) (counted (counters_of s) work.acts)) (all_changes work.acts) c i) [
    | inl a ↦ let k = of_counters (counters_of s) (counted (counters_of s) work.acts) c a in none_some n (sym (ap outbox.request_of k.2) ∙ same)
    | inr b ↦ h.changes c b same
  ]

  pub push_left_by : get (acted s work).state.rows.pushes n ≡ get s.rows.pushes n
  push_left_by = push_stays (step_of_acts s work.acts).changes s.rows n (λ c i same. step_leaves c i (ap outbox.request_of same))

  pub time_left_by : get (acted s work).state.resend n ≡ get s.resend n
  time_left_by = timed_keep (all_volatile work.acts) (untimed_all (step_of_acts s work.acts).changes s.resend) n h.volatile
      ∙ untimed_keep (step_of_acts s work.acts).changes s.resend n step_leaves

-- ends of commands leave the requests that were there before
end_request : (last : ℕ) (ends : List Ending) (k : RowKey) (n : ℕ) → IsOfEnd last ends k → outbox.request_of k ≡ Some n → last < n
end_request last ends k n (Opened e i x) same = none_some n (sym (ap outbox.request_of x) ∙ same)
end_request last ends k n (Pushed l after bound x) same = let is : Some l ≡ Some n = sym (ap outbox.request_of x) ∙ same in let one : l ≡ n = cc in omega (arith, after, one)
end_request last ends k n (Ended e i x) same = none_some n (sym (ap outbox.request_of x) ∙ same)

ends_leave_request : (at : ℕ) (m : book.OpenCommands) (last : ℕ) (ends : List Ending) (n : ℕ) → n ≤ last → LeavesRequest n (ends_acts at m last ends)
ends_leave_request at m last ends n old = record {
  changes = λ c i same. let above = end_request last ends (change_key c) n (of_ends at m last ends c i) same in omega (arith, above, old);
  volatile = λ v i same. let above = ends_above at m last ends v i in omega (arith, above, same, old);
}

-- and expiries leave all
expired_leave_request : (expired : List Standing) (n : ℕ) → LeavesRequest n (expired_acts expired)
expired_leave_request expired n = record {
  changes = λ c i same. let x = of_expired expired c i in none_some n (sym (ap outbox.request_of x.2) ∙ same);
  volatile = λ v i same. absurd (in_none v (subst (λ l. Contains l v) (expired_untold expired) i));
}

-- the counter of sessions is of no request
pub counter_changes : (last now : ℕ) → all_changes (map changed (count_change counter.Session last now)) ≡ count_change counter.Session last now
counter_changes last now = elim (nat_eq last now) as (λ b. all_changes (map changed (cond b [] (Put (row.Count counter.Session now) ∷ []))) ≡ cond b [] (Put (row.Count counter.Session now) ∷ [])) [
  | true ↦ refl
  | false ↦ refl
]

pub counter_untold : (last now : ℕ) → all_volatile (map changed (count_change counter.Session last now)) ≡ []
counter_untold last now = elim (nat_eq last now) as (λ b. all_volatile (map changed (cond b [] (Put (row.Count counter.Session now) ∷ []))) ≡ []) [
  | true ↦ refl
  | false ↦ refl
]

-- the push of a result is about no session and no token
pub result_about : (at : ℕ) (m : book.OpenCommands) (last : ℕ) (ends : List Ending) (r : Rows) (u : Subject) (n : ℕ) →
    IsAbout (changed_all (all_changes (ends_acts at m last ends)) r).pushes u n → IsAbout r.pushes u n
result_about at m last [] r u n h = h
result_about at m last (e ∷ es) r u n h =
    let before = result_about at m (last + 1) es (changed_all (all_changes (end_acts at m last e)) r) u n h in
    elim (of_insert nat_cmp_total nat_cmp-IsAntisymmetric r.pushes (last + 1) _ n before.0 before.1) [
      | inl same ↦ none_some u (ap subject_of same.1 ∙ before.2)
      | inr stood ↦ (before.0, stood, before.2)
    ]

-- pushes that stand alike are sent again alike
same_resent : (providers : List (List ℕ)) (at : ℕ) (m k : Pushes) (numbers : List ℕ) → ((n : ℕ) → Contains numbers n → get m n ≡ get k n) → all_resent providers at m numbers ≡ all_resent providers at k numbers
same_resent providers at m k [] h = refl
same_resent providers at m k (n ∷ ns) h =
    let one = h n (in_front n ns) in
    let more = same_resent providers at m k ns (λ l i. h l (in_later n ns l i)) in
    λ i. resent_acts providers at n (one i) ++ more i

-- a push that is due was given its number
pub due_given : (s : State) (at n : ℕ) → IsConsistent s → IsDue (as_outbox s.rows) s.resend at n → n ≤ s.rows.request
due_given s at n fine due = elim due.waits [
  | inl stands ↦ fine.sound.outbox.pushes_counted n stands
  | inr command ↦ not_both command.0 _ (get-empty nat_cmp n) command.1
]

-- and stands
pub due_stands : (s : State) (at n : ℕ) → IsDue (as_outbox s.rows) s.resend at n → IsTrue (contains_key s.rows.pushes n)
due_stands s at n due = elim due.waits [
  | inl stands ↦ stands
  | inr command ↦ not_both command.0 _ (get-empty nat_cmp n) command.1
]

module _ (s : State) (at : ℕ) (ends : List Ending) where
  abbrev timeouts : List Act
  timeouts = ends_acts at s.rows.commands.pending s.rows.request ends

  -- once the commands have ended
  abbrev pub ended : State
  ended = (acted s (quiet timeouts)).state

  ended_rows : ended.rows ≡ changed_all (all_changes timeouts) (numbered_for timeouts s).rows
  ended_rows = rows_after timeouts s

  -- the reservations are as they were
  pub ended_booked : ended.rows.booked ≡ s.rows.booked
  ended_booked = ap (λ (r : Rows). r.booked) ended_rows ∙ ends_booked at s.rows.commands.pending s.rows.request ends (numbered_for timeouts s).rows

  ended_request : ended.rows.request ≡ s.rows.request + length ends
  ended_request =
      let one = ap (λ (r : Rows). r.request) ended_rows ∙ ends_numbers at s.rows.commands.pending s.rows.request ends (numbered_for timeouts s).rows in
      let asked = ends_ask at s.rows.commands.pending s.rows.request ends in
      omega (arith, one, asked)

  module _ (expired : List Standing) where
    -- and the reservations too
    abbrev pub expiry : State
    expiry = (acted ended (quiet (expired_acts expired))).state

    expiry_rows : expiry.rows ≡ changed_all (all_changes (expired_acts expired)) (numbered_for (expired_acts expired) ended).rows
    expiry_rows = rows_after (expired_acts expired) ended

    -- as many requests were made as commands ended
    pub request_seen : expiry.rows.request ≡ s.rows.request + length ends
    request_seen =
        let one = ap (λ (r : Rows). r.request) expiry_rows ∙ expired_numbers expired (numbered_for (expired_acts expired) ended).rows in
        let asked = expired_ask expired in
        let before = ended_request in
        omega (arith, one, asked, before)

    -- sessions and charge detail records are as they were
    pub charged_seen : expiry.rows.charged ≡ s.rows.charged
    charged_seen =
        ap (λ (r : Rows). r.charged) expiry_rows ∙ expired_charged expired (numbered_for (expired_acts expired) ended).rows
        ∙ ap (λ (r : Rows). r.charged) ended_rows ∙ ends_charged at s.rows.commands.pending s.rows.request ends (numbered_for timeouts s).rows

    pub last_seen : expiry.rows.charged.last_session ≡ s.rows.charged.last_session
    last_seen = ap (λ (c : charged.Rows). c.last_session) charged_seen

    -- the pushes that were there, and the moments from which on they are due again, are as they were
    pub push_seen : (n : ℕ) → n ≤ s.rows.request → get expiry.rows.pushes n ≡ get s.rows.pushes n
    push_seen n old = push_left_by ended (quiet (expired_acts expired)) n (expired_leave_request expired n)
        ∙ push_left_by s (quiet timeouts) n (ends_leave_request at s.rows.commands.pending s.rows.request ends n old)

    pub time_seen : (n : ℕ) → n ≤ s.rows.request → get expiry.resend n ≡ get s.resend n
    time_seen n old = time_left_by ended (quiet (expired_acts expired)) n (expired_leave_request expired n)
        ∙ time_left_by s (quiet timeouts) n (ends_leave_request at s.rows.commands.pending s.rows.request ends n old)

    -- and so are those about sessions and tokens
    pub about_seen : IsConsistent s → (u : Subject) (n : ℕ) → IsAbout expiry.rows.pushes u n ↔ IsAbout s.rows.pushes u n
    about_seen fine u n = (
      (λ h. result_about at s.rows.commands.pending s.rows.request ends (numbered_for timeouts s).rows u n
          (subst (λ (r : Rows). IsAbout r.pushes u n) ended_rows
          (subst (λ m. IsAbout m u n) (ap (λ (r : Rows). r.pushes) expiry_rows ∙ expired_pushes expired (numbered_for (expired_acts expired) ended).rows) h))),
      (λ h. (h.0, push_seen n (fine.sound.outbox.pushes_counted n (ap is_some h.1)) ∙ h.1, h.2)),
    )

    -- of the claims, those are left that do not end by the moment
    pub left_seen : TimeOut s at ends → AreExpired at s.rows.booked.reservations expired → AreLeft s.rows at expiry.rows
    left_seen timed_out have_expired =
        subst (AreLeft s.rows at) (sym expiry_rows)
        (are_left s at ends timed_out expired have_expired (numbered_for (expired_acts expired) ended).rows
        (ap (λ (r : Rows). r.out_of_service) ended_rows ∙ ends_service at s.rows.commands.pending s.rows.request ends (numbered_for timeouts s).rows)
        (ap (λ (r : Rows). r.charged) ended_rows ∙ ends_charged at s.rows.commands.pending s.rows.request ends (numbered_for timeouts s).rows)
        ended_booked
        (λ k o. subst (λ (r : Rows). (get r.commands.pending k ≡ Some o) ↔ ((get s.rows.commands.pending k ≡ Some o) × (at < o.deadline))) (sym ended_rows)
        (open_left s at ends timed_out expired have_expired s.rows.request (numbered_for timeouts s).rows refl k o)))

    module _ (late : List ℕ) (begun : List Act) (now : ℕ) (unanswered : AreLeftUnanswered s at (s.rows.request + length ends) s.rows.charged.last_session late begun now) where
      -- the sessions that begin, and what is awaited no more
      abbrev pub late_work : Work
      late_work = record { acts = map changed (count_change counter.Session s.rows.charged.last_session now) ++ begun; waits = map Ends late }

      -- once they have begun
      abbrev pub resumed : State
      resumed = (acted expiry late_work).state

      late_changes : all_changes late_work.acts ≡ count_change counter.Session s.rows.charged.last_session now ++ all_changes begun
      late_changes = changes_append (map changed (count_change counter.Session s.rows.charged.last_session now)) begun
          ∙ ap (λ l. l ++ all_changes begun) (counter_changes s.rows.charged.last_session now)

      late_volatile : all_volatile late_work.acts ≡ all_volatile begun
      late_volatile = volatile_append (map changed (count_change counter.Session s.rows.charged.last_session now)) begun
          ∙ ap (λ l. l ++ all_volatile begun) (counter_untold s.rows.charged.last_session now)

      -- a push that was there and is not replaced is left
      late_leave : (n : ℕ) → n ≤ s.rows.request → ¬ Contains (all_changes begun) (Drop (keys.Push n)) → LeavesRequest n late_work.acts
      late_leave n old kept = record {
        changes = λ c i same. elim (Contains-append_cases (count_change counter.Session s.rows.charged.last_session now) (all_changes begun) c (subst (λ l. Contains l c) late_changes i)) [
          | inl j ↦ none_some n (sym (ap outbox.request_of (of_counter counter.Session s.rows.charged.last_session now c j)) ∙ same)
          | inr j ↦ elim (late_request s at (s.rows.request + length ends) s.rows.charged.last_session late begun now unanswered c j n same) [
            | inl is ↦ kept (subst (Contains (all_changes begun)) is j)
            | inr above ↦ omega (arith, above, old)
          ]
        ];
        volatile = λ v i same.
            let above = late_above s at (s.rows.request + length ends) s.rows.charged.last_session late begun now unanswered v (subst (λ l. Contains l v) late_volatile i) in
            omega (arith, above, same, old);
      }

      pub push_after : (n : ℕ) → n ≤ s.rows.request → ¬ Contains (all_changes begun) (Drop (keys.Push n)) → get resumed.rows.pushes n ≡ get s.rows.pushes n
      push_after n old kept = push_left_by expiry late_work n (late_leave n old kept) ∙ push_seen n old

      pub time_after : (n : ℕ) → n ≤ s.rows.request → ¬ Contains (all_changes begun) (Drop (keys.Push n)) → get resumed.resend n ≡ get s.resend n
      time_after n old kept = time_left_by expiry late_work n (late_leave n old kept) ∙ time_seen n old

      -- and one that is replaced stands no more
      gone_after : (n : ℕ) → n ≤ s.rows.request → Contains (all_changes begun) (Drop (keys.Push n)) → get resumed.rows.pushes n ≡ None
      gone_after n old i =
          let counts = count_change counter.Session s.rows.charged.last_session now in
          let start = (numbered_for late_work.acts expiry).rows in
          ap (λ (r : Rows). get r.pushes n) (rows_after late_work.acts expiry) ∙ ap (λ cs. get (changed_all cs start).pushes n) late_changes
          ∙ ap (λ (r : Rows). get r.pushes n) (changed_append counts (all_changes begun) start)
          ∙ late_gone s at n (s.rows.request + length ends) s.rows.charged.last_session late begun now unanswered (omega (arith, old)) (changed_all counts start) i

      -- so what is to be sent again is what was due before, and is not replaced
      due_then : (n : ℕ) → IsToResend s.rows.request resumed at n → IsStillDue s at begun n
      due_then n h =
          let kept : ¬ Contains (all_changes begun) (Drop (keys.Push n)) = λ i. elim h.due.waits [
            | inl stands ↦ none_contained (get resumed.rows.pushes n) stands (gone_after n h.earlier i)
            | inr command ↦ not_both command.0 _ (get-empty nat_cmp n) command.1
          ] in
          record {
            due = record {
              waits = elim h.due.waits [
                | inl stands ↦ inl (ap is_some (sym (push_after n h.earlier kept)) ∙ stands)
                | inr command ↦ inr command
              ];
              past = λ moment has. h.due.past moment (time_after n h.earlier kept ∙ has);
            };
            unreplaced = kept;
          }

      due_now : (n : ℕ) → IsConsistent s → IsStillDue s at begun n → IsToResend s.rows.request resumed at n
      due_now n fine h =
          let old = due_given s at n fine h.due in
          record {
            due = record {
              waits = elim h.due.waits [
                | inl stands ↦ inl (ap is_some (push_after n old h.unreplaced) ∙ stands)
                | inr command ↦ inr command
              ];
              past = λ moment has. h.due.past moment (sym (time_after n old h.unreplaced) ∙ has);
            };
            earlier = old;
          }

      pub due_seen : (due : List ℕ) → IsConsistent s → AreExactly (IsToResend s.rows.request resumed at) due ↔ AreExactly (IsStillDue s at begun) due
      due_seen due fine = (
        (λ h. record { exact = λ n. ((λ i. due_then n ((h.exact n).0 i)), (λ d. (h.exact n).1 (due_now n fine d))); in_order = h.in_order }),
        (λ h. record { exact = λ n. ((λ i. due_now n fine ((h.exact n).0 i)), (λ d. (h.exact n).1 (due_then n d))); in_order = h.in_order }),
      )

      -- the work of the stages is that of the moment
      pub stage_work : (due : List ℕ) → IsConsistent s → AreExactly (IsStillDue s at begun) due →
          and_then (quiet timeouts) (and_then (quiet (expired_acts expired)) (and_then late_work (and_then (quiet (all_resent s.providers at resumed.rows.pushes due)) (quiet []))))
          ≡ record { acts = tick_acts at s ends expired now begun due; waits = map Ends late }
      stage_work due fine h =
          let resends = same_resent s.providers at resumed.rows.pushes s.rows.pushes due (λ n i. let is = (h.exact n).0 i in push_after n (due_given s at n fine is.due) is.unreplaced) in
          let acts = ap (λ l. timeouts ++ (expired_acts expired ++ (late_work.acts ++ l))) (append-nil (all_resent s.providers at resumed.rows.pushes due) ∙ resends)
          ∙ sym (append_assoc timeouts (expired_acts expired) (late_work.acts ++ all_resent s.providers at s.rows.pushes due)) in
          let none = append-nil (map Ends late) in
          λ i. record { acts = acts i; waits = none i }

-- a stage, and those that follow it
stage : (Line : Stage) (Lines : List Stage) (s : State) (now rest : Work) → Line s now → Stages Lines (acted s now).state rest → Stages (Line ∷ Lines) s (and_then now rest)
stage Line Lines s now rest line later = (now, rest, line, later, refl)

-- the stages of a moment, from the second, the third and the fourth on
abbrev fourth_on : ℕ → ℕ → List Stage
fourth_on last at = (λ t. Quietly (Resends last at t)) ∷ []

abbrev third_on : ℕ → ℕ → List Stage
third_on last at = Deadlines at ∷ fourth_on last at

abbrev second_on : ℕ → ℕ → List Stage
second_on last at = (λ t. Quietly (Expiries at t)) ∷ third_on last at

module _ (s : State) (at : ℕ) (fine : IsConsistent s) (ends : List Ending) (timed_out : TimeOut s at ends) (expired : List Standing) (have_expired : AreExpired at s.rows.booked.reservations expired) where
  abbrev left_then : State
  left_then = expiry s at ends expired

  -- the deadlines are read alike
  deadlines_then : (late : List ℕ) (begun : List Act) (now : ℕ) → AreExactly (waits.IsDue s.waits at) late →
      (unanswered : AreLeftUnanswered s at (s.rows.request + length ends) s.rows.charged.last_session late begun now) → Deadlines at left_then (late_work s at ends expired late begun now unanswered)
  deadlines_then late begun now are_late unanswered = record {
    due = late;
    are_due = are_late;
    acts = begun;
    now = now;
    unanswered = all_seen s at left_then.rows left_then.resend (left_seen s at ends expired timed_out have_expired) (about_seen s at ends expired fine)
        left_then.rows.request left_then.rows.charged.last_session late begun now
        (subst (λ n. AreLeftUnanswered s at left_then.rows.request n late begun now) (sym (last_seen s at ends expired))
        (subst (λ l. AreLeftUnanswered s at l s.rows.charged.last_session late begun now) (sym (request_seen s at ends expired)) unanswered));
    work_is = ap (λ n. record { acts = map changed (count_change counter.Session n now) ++ begun; waits = map Ends late }) (sym (last_seen s at ends expired));
  }

  deadlines_before : (late : List ℕ) (begun : List Act) (now : ℕ) → AreUnanswered left_then at left_then.rows.request left_then.rows.charged.last_session late begun now →
      AreLeftUnanswered s at (s.rows.request + length ends) s.rows.charged.last_session late begun now
  deadlines_before late begun now h =
      subst (λ l. AreLeftUnanswered s at l s.rows.charged.last_session late begun now) (request_seen s at ends expired)
      (subst (λ n. AreLeftUnanswered s at left_then.rows.request n late begun now) (last_seen s at ends expired)
      (all_before s at left_then.rows left_then.resend (left_seen s at ends expired timed_out have_expired) (about_seen s at ends expired fine)
      left_then.rows.request left_then.rows.charged.last_session late begun now h))

  -- where all is read from the state before the moment, it is what the moment comes to
  pub tick_is : (late : List ℕ) (begun : List Act) (now : ℕ) (due : List ℕ) → AreExactly (waits.IsDue s.waits at) late →
      AreLeftUnanswered s at (s.rows.request + length ends) s.rows.charged.last_session late begun now → AreExactly (IsStillDue s at begun) due →
      TickLine s at (record { acts = tick_acts at s ends expired now begun due; waits = map Ends late })
  tick_is late begun now due are_late unanswered are_due =
      let first : Timeouts at s (timeouts s at ends) = record { ends = ends; timed_out = timed_out; acts_are = refl } in
      let second : Expiries at (ended s at ends) (expired_acts expired) = record {
        expired = expired;
        have_expired = subst (λ (b : booked.Rows). AreExpired at b.reservations expired) (sym (ended_booked s at ends)) have_expired;
        acts_are = refl;
      } in
      let third = late_work s at ends expired late begun now unanswered in
      let after = resumed s at ends expired late begun now unanswered in
      let again = all_resent s.providers at after.rows.pushes due in
      let fourth : Resends s.rows.request at after again = record { due = due; are_due = (due_seen s at ends expired late begun now unanswered due fine).1 are_due; acts_are = refl } in
      subst (TickLine s at) (stage_work s at ends expired late begun now unanswered due fine are_due)
      (stage (λ t. Quietly (Timeouts at t)) (second_on s.rows.request at) s (quiet (timeouts s at ends)) (and_then (quiet (expired_acts expired)) (and_then third (and_then (quiet again) (quiet []))))
      (timeouts s at ends, first, refl)
      (stage (λ t. Quietly (Expiries at t)) (third_on s.rows.request at) (ended s at ends) (quiet (expired_acts expired)) (and_then third (and_then (quiet again) (quiet []))) (expired_acts expired, second, refl)
      (stage (Deadlines at) (fourth_on s.rows.request at) left_then third (and_then (quiet again) (quiet [])) (deadlines_then late begun now are_late unanswered)
      (stage (λ t. Quietly (Resends s.rows.request at t)) [] after (quiet again) (quiet []) (again, fourth, refl) refl))))

  resends_parts : (work rest : Work) (late : List ℕ) (begun : List Act) (now : ℕ) → AreExactly (waits.IsDue s.waits at) late →
      (unanswered : AreLeftUnanswered s at (s.rows.request + length ends) s.rows.charged.last_session late begun now) →
      Stages (fourth_on s.rows.request at) (resumed s at ends expired late begun now unanswered) rest →
      work ≡ and_then (quiet (timeouts s at ends)) (and_then (quiet (expired_acts expired)) (and_then (late_work s at ends expired late begun now unanswered) rest)) → IsTickOf s at work
  resends_parts work rest late begun now are_late unanswered h is =
      let line = h.2.1 in
      let are_due = (due_seen s at ends expired late begun now unanswered line.due fine).0 line.are_due in
      let again = all_resent s.providers at (resumed s at ends expired late begun now unanswered).rows.pushes line.due in
      let rest_is : rest ≡ and_then (quiet again) (quiet []) = h.4 ∙ (λ i. and_then ((h.2.2 ∙ ap quiet line.acts_are) i) (h.3 i)) in
      record {
        ends = ends;
        timed_out = timed_out;
        expired = expired;
        have_expired = have_expired;
        late = late;
        are_late = are_late;
        begun = begun;
        now = now;
        unanswered = unanswered;
        due = line.due;
        are_due = are_due;
        work_is = is ∙ ap (λ (w : Work). and_then (quiet (timeouts s at ends)) (and_then (quiet (expired_acts expired)) (and_then (late_work s at ends expired late begun now unanswered) w))) rest_is
            ∙ stage_work s at ends expired late begun now unanswered line.due fine are_due;
      }

  deadlines_parts : (work rest : Work) → Stages (third_on s.rows.request at) left_then rest →
      work ≡ and_then (quiet (timeouts s at ends)) (and_then (quiet (expired_acts expired)) rest) → IsTickOf s at work
  deadlines_parts work rest h is =
      let line = h.2 in
      let unanswered = deadlines_before line.due line.acts line.now line.unanswered in
      let third = late_work s at ends expired line.due line.acts line.now unanswered in
      let third_is : h.0 ≡ third = line.work_is ∙ ap (λ n. record { acts = map changed (count_change counter.Session n line.now) ++ line.acts; waits = map Ends line.due }) (last_seen s at ends expired) in
      resends_parts work h.1 line.due line.acts line.now line.are_due unanswered
      (subst (λ w. Stages (fourth_on s.rows.request at) (acted left_then w).state h.1) third_is h.3)
      (is ∙ ap (λ (w : Work). and_then (quiet (timeouts s at ends)) (and_then (quiet (expired_acts expired)) w)) (h.4 ∙ ap (λ (w : Work). and_then w h.1) third_is))

module _ (s : State) (at : ℕ) (fine : IsConsistent s) where
  expiries_parts : (ends : List Ending) (work rest : Work) → TimeOut s at ends → Stages (second_on s.rows.request at) (ended s at ends) rest → work ≡ and_then (quiet (timeouts s at ends)) rest → IsTickOf s at work
  expiries_parts ends work rest timed_out h is =
      let line = h.2.1 in
      let second_is : h.0 ≡ quiet (expired_acts line.expired) = h.2.2 ∙ ap quiet line.acts_are in
      deadlines_parts s at fine ends timed_out line.expired (subst (λ (b : booked.Rows). AreExpired at b.reservations line.expired) (ended_booked s at ends) line.have_expired) work h.1
      (subst (λ w. Stages (third_on s.rows.request at) (acted (ended s at ends) w).state h.1) second_is h.3)
      (is ∙ ap (λ (w : Work). and_then (quiet (timeouts s at ends)) w) (h.4 ∙ ap (λ (w : Work). and_then w h.1) second_is))

  -- whatever a moment comes to is of this form
  pub tick_parts : (work : Work) → TickLine s at work → IsTickOf s at work
  tick_parts work h =
      let line = h.2.1 in
      let first_is : h.0 ≡ quiet (timeouts s at line.ends) = h.2.2 ∙ ap quiet line.acts_are in
      expiries_parts line.ends work h.1 line.timed_out
      (subst (λ w. Stages (second_on s.rows.request at) (acted s w).state h.1) first_is h.3)
      (h.4 ∙ ap (λ (w : Work). and_then w h.1) first_is)

-- and whatever is of this form is what the moment comes to
pub stages_see : StagesSeeStart
stages_see s at work fine = (
  tick_parts s at fine work,
  (λ h. subst (TickLine s at) (sym h.work_is) (tick_is s at fine h.ends h.timed_out h.expired h.have_expired h.late h.begun h.now h.due h.are_late h.unanswered h.are_due)),
)
