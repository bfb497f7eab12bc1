-- What happens at a moment: its acts are what the moment comes to, they take so many numbers, and they are gathered in
-- turn.
use Rattle.std.proofs.Common.{◌≡◌, ◌<◌, ◌≤◌, ◌+◌, ◌++◌, ℕ, Bool, true, false, cond, nat_eq, List, [], ◌∷◌, length, map, inl, inr, refl, sym, ap, subst, ◌∙◌, arith}
use Rattle.std.specs.Prelude.{Contains, Result, Ok, Err, IfOk, IfErr, IsTrue}
use Rattle.std.specs.Result.{IsErrAnd}
use Rattle.std.specs.FinMap.{contains_key}
use Rattle.std.proofs.lemmas.List.Elements.{Contains-append_left, Contains-append_right}
use Rattle.std.proofs.lemmas.Bool.{ne_eqb}
use Rattle.std.proofs.lemmas.Result.{err_from_is_err_and}
use Rattle.ocpi_text.specs.Text.{key}
use Rattle.ocpi_text.specs.Whole.{max_whole}
use Rattle.ocpi_types.specs.declared.rows.Change.{Change}
use Rattle.ocpi_types.specs.declared.rows.Change.TheVariants.{Put}
use Rattle.ocpi_types.specs.declared.rows.Counter.TheVariants as counter
use Rattle.ocpi_types.specs.declared.rows.Row.TheVariants as row
use Rattle.authorization_book.specs.Due.{AreDue}
use Rattle.authorization_book.specs.Waits as waits
use Rattle.authorization_book.specs.declared.waiting.Waiting.TheVariants.{Ends}
use Rattle.outbox.specs.Due.{AreExactly}
use Rattle.reservation_book.specs.declared.standing.Standing.{Standing}
use Rattle.tables.proofs.Elements.{in_front, in_none}
use Rattle.node_steps.specs.Acts.{Act, all_changes, all_messages, all_requests, changed}
use Rattle.node_steps.specs.Drafts.{Gathered, HasNumbersOf, count_change, with_acts}
use Rattle.node_steps.specs.Peers.{HasPeer}
use Rattle.node_steps.specs.declared.fault.NodeFault.{NodeFault}
use Rattle.node_steps.specs.declared.fault.NodeFault.TheVariants.{NotForMe, UnknownOperator, UnknownToken, StampEnd, NumbersUsedUp, Memory}
use Rattle.node_steps.proofs.Gathering.{both, changes_append, has_first, has_rest}
use Rattle.operator_rows.specs.State.{State}
use Rattle.operator_rows.specs.Sound.{IsConsistent}
use Rattle.operator_steps.specs.declared.ending.Ending.{Ending}
use Rattle.operator_steps.specs.Ends.{all_resent, ends_acts, expired_acts}
use Rattle.operator_steps.specs.Faults.{IsOwnFault, PassesLast}
use Rattle.operator_steps.specs.Moves.{Work}
use Rattle.operator_steps.specs.Tick.{TickLine}
use Rattle.operator_steps.specs.TickFacts.{tick_acts}
use Rattle.operator_steps.proofs.Ends.{ends_ask}
use Rattle.operator_steps.proofs.Expiring.{expired_ask}
use Rattle.operator_steps.proofs.Resending.{resent_changes}
use Rattle.operator_steps.proofs.TickStages.{due_stands, stages_see}
use Rattle.operator_steps.proofs.TickSteps.{tick_ask, tick_send}
use Rattle.operator_planning.specs.Happenings.{AreDueAt, HappenWith, IsHappening, happening_acts, unreplaced}
use Rattle.operator_planning.specs.Planned.{AreBeginnings, AreNewSessions, CannotNumber, Late, Late_begins, None_late, all_begun}
use Rattle.operator_planning.specs.declared.sessions.Begun.{Begun}
use Rattle.operator_planning.specs.declared.ticks.Due.{Due}
use Rattle.operator_planning.specs.declared.ticks.Happening.{Happening}
use Rattle.operator_planning.proofs.BeginningCounts.{ends_within}
use Rattle.operator_planning.proofs.CountedDrafts.{AreWithin, CountWithin, within_both}
use Rattle.operator_planning.proofs.LateBeginnings.{all_begun_ask, all_begun_send, all_begun_within, left_unanswered, some_sessions}
use Rattle.operator_planning.proofs.Parts.{third_has, three_parts}
use Rattle.operator_planning.proofs.Unreplaced.{left_among, still_due}
use Rattle.operator_steps.proofs.Orderly.{of_cons}
use Rattle.session_tables.specs.declared.beginning.Beginning.{Beginning}

-- want of memory may come at any time
pub starved_own : {T : Type 0} → (Line : Work → Type 0) (s : State) (r : Result T NodeFault) → IsErrAnd r (λ e. e ≡ Memory) → IfErr r (IsOwnFault Line s)
starved_own Line s r is =
    let p = err_from_is_err_and r is in
    rw (p.1, p.2) tt

-- each session that begins is of a provider of the site
pub peers_begin : (s : State) (at : ℕ) (late : List ℕ) (bs : List Beginning) → IsConsistent s → AreBeginnings s at late bs → (b : Beginning) → Contains bs b → HasPeer s.providers (key b.token.party)
peers_begin s at late bs fine None_late b i = absurd (in_none b i)
peers_begin s at late bs fine (Late k ks cs one rest) b i = peers_begin s at ks cs fine rest b i
peers_begin s at late bs fine (Late_begins k ks c cs one rest) b i = elim (of_cons c cs b i) [
  | inl same ↦ subst (λ (x : Beginning). HasPeer s.providers (key x.token.party)) same
      (subst (λ (x : Beginning). HasPeer s.providers (key x.token.party)) (sym one.decided.there.begins_is) (fine.awaited k one.awaited one.stands).provider)
  | inr j ↦ peers_begin s at ks cs fine rest b j
]

-- the counter of sessions, where it gave a number
count_by : (b : Bool) (now : ℕ) → now ≤ max_whole → CountWithin (map changed (cond b [] (Put (row.Count counter.Session now) ∷ [])))
count_by true now h = tt
count_by false now h = (h, tt)

abbrev pub counts_of : ℕ → ℕ → List Act
counts_of last now = map changed (count_change counter.Session last now)

count_within : (last now : ℕ) → now ≤ max_whole → CountWithin (counts_of last now)
count_within last now h = count_by (nat_eq last now) now h

no_asks : (cs : List Change) → all_requests (map changed cs) ≡ 0
no_asks [] = refl
no_asks (c ∷ cs) = omega (arith, no_asks cs)

expired_within : (expired : List Standing) → CountWithin (expired_acts expired)
expired_within [] = tt
expired_within (x ∷ xs) = (tt, expired_within xs)

module _ (at : ℕ) (s : State) (x : Happening) where
  abbrev Ended : List Act
  Ended = ends_acts at s.rows.commands.pending s.rows.request x.due.ends.items

  abbrev Expired : List Act
  Expired = expired_acts x.due.expired.items

  abbrev Counted : List Act
  Counted = counts_of s.rows.charged.last_session x.last

  abbrev BegunActs : List Act
  BegunActs = all_begun at (s.rows.request + length x.due.ends.items) x.begun.items

  abbrev Resent : List Act
  Resent = all_resent s.providers at s.rows.pushes x.resent.items

  -- so many packets and requests
  pub happening_send : ((n : ℕ) → Contains x.resent.items n → IsTrue (contains_key s.rows.pushes n)) →
      (length x.due.ends.items + length x.begun.items) + length x.resent.items ≡ length (all_messages (happening_acts at s x))
  happening_send stand =
      let all = tick_send s at x.due.ends.items x.due.expired.items x.last BegunActs x.resent.items stand in
      let begun = all_begun_send at (s.rows.request + length x.due.ends.items) x.begun.items in
      omega (arith, all, begun)

  pub happening_ask : length x.due.ends.items + length x.begun.items ≡ all_requests (happening_acts at s x)
  happening_ask =
      let all = tick_ask s at x.due.ends.items x.due.expired.items x.last BegunActs x.resent.items in
      let begun = all_begun_ask at (s.rows.request + length x.due.ends.items) x.begun.items in
      omega (arith, all, begun)

  pub happening_within : x.last ≤ max_whole → CountWithin (happening_acts at s x)
  happening_within h =
      within_both (Ended ++ Expired) ((Counted ++ BegunActs) ++ Resent)
      (within_both Ended Expired (ends_within at s.rows.commands.pending s.rows.request x.due.ends.items) (expired_within x.due.expired.items))
      (within_both (Counted ++ BegunActs) Resent
      (within_both Counted BegunActs (count_within s.rows.charged.last_session x.last h) (all_begun_within at (s.rows.request + length x.due.ends.items) x.begun.items))
      (subst AreWithin (sym (resent_changes s.providers at s.rows.pushes x.resent.items)) tt))

  -- they are gathered one after the other
  module _ (d : Gathered) (numbered : d.counters.request ≡ s.rows.request) (h : HasNumbersOf (happening_acts at s x) d) where
    pub ends_have : HasNumbersOf (ends_acts at s.rows.commands.pending d.counters.request x.due.ends.items) d
    ends_have =
        subst (λ n. HasNumbersOf (ends_acts at s.rows.commands.pending n x.due.ends.items) d) (sym numbered)
        (has_first Ended Expired d (has_first (Ended ++ Expired) ((Counted ++ BegunActs) ++ Resent) d h))

    module _ (y z w : Gathered) (one : y ≡ with_acts (ends_acts at s.rows.commands.pending d.counters.request x.due.ends.items) d) (two : z ≡ with_acts Expired y) (three : w ≡ with_acts Counted z) where
      first_is : y ≡ with_acts Ended d
      first_is = one ∙ ap (λ n. with_acts (ends_acts at s.rows.commands.pending n x.due.ends.items) d) numbered

      front_is : z ≡ with_acts (Ended ++ Expired) d
      front_is = two ∙ ap (λ (g : Gathered). with_acts Expired g) first_is ∙ both Ended Expired d

      back_has : HasNumbersOf ((Counted ++ BegunActs) ++ Resent) z
      back_has = subst (HasNumbersOf ((Counted ++ BegunActs) ++ Resent)) (sym front_is) (has_rest (Ended ++ Expired) ((Counted ++ BegunActs) ++ Resent) d h)

      last_is : w.counters.request ≡ s.rows.request + length x.due.ends.items
      last_is =
          let after_ends : y.counters.request ≡ d.counters.request + all_requests Ended = ap (λ (g : Gathered). g.counters.request) first_is in
          let after_expired : z.counters.request ≡ y.counters.request + all_requests Expired = ap (λ (g : Gathered). g.counters.request) two in
          let after_count : w.counters.request ≡ z.counters.request + all_requests Counted = ap (λ (g : Gathered). g.counters.request) three in
          let ends = ends_ask at s.rows.commands.pending s.rows.request x.due.ends.items in
          let expired = expired_ask x.due.expired.items in
          let count = no_asks (count_change counter.Session s.rows.charged.last_session x.last) in
          omega (arith, after_ends, after_expired, after_count, ends, expired, count, numbered)

      pub begun_have : HasNumbersOf (all_begun at w.counters.request x.begun.items) w
      begun_have =
          let rest : HasNumbersOf BegunActs (with_acts Counted z) = has_rest Counted BegunActs z (has_first (Counted ++ BegunActs) Resent z back_has) in
          subst (λ n. HasNumbersOf (all_begun at n x.begun.items) w) (sym last_is) (subst (HasNumbersOf BegunActs) (sym three) rest)

      module _ (u : Gathered) (four : u ≡ with_acts (all_begun at w.counters.request x.begun.items) w) where
        fourth_is : u ≡ with_acts BegunActs w
        fourth_is = four ∙ ap (λ n. with_acts (all_begun at n x.begun.items) w) last_is

        pub resent_have : HasNumbersOf Resent u
        resent_have = third_has Counted BegunActs Resent z back_has w u three fourth_is

        pub happening_is : (v : Gathered) → v ≡ with_acts Resent u → v ≡ with_acts (happening_acts at s x) d
        happening_is v five =
            three_parts Counted BegunActs Resent z w u v three fourth_is five
            ∙ ap (λ (g : Gathered). with_acts ((Counted ++ BegunActs) ++ Resent) g) front_is
            ∙ both (Ended ++ Expired) ((Counted ++ BegunActs) ++ Resent) d

lift_left : (a b : List Act) (m : Change) → Contains (all_changes a) m → Contains (all_changes (a ++ b)) m
lift_left a b m i = subst (λ l. Contains l m) (sym (changes_append a b)) (Contains-append_left (all_changes a) (all_changes b) m i)

lift_right : (a b : List Act) (m : Change) → Contains (all_changes b) m → Contains (all_changes (a ++ b)) m
lift_right a b m i = subst (λ l. Contains l m) (sym (changes_append a b)) (Contains-append_right (all_changes a) (all_changes b) m i)

-- what happens is what the moment comes to
module _ (s : State) (at : ℕ) (fine : IsConsistent s) (late : List ℕ) (are_late : AreExactly (waits.IsDue s.waits at) late) (bs : List Beginning) (begin : AreBeginnings s at late bs) where
  abbrev Works : List Ending → List Standing → ℕ → List Begun → List ℕ → Work
  Works ends expired now xs due = record { acts = tick_acts at s ends expired now (all_begun at (s.rows.request + length ends) xs) due; waits = map Ends late }

  abbrev Last : ℕ
  Last = s.rows.charged.last_session + length bs

  line_is : (x : Due) → AreDueAt s at x → (xs : List Begun) → AreNewSessions s at s.rows.charged.last_session bs xs → TickLine s at (Works x.ends.items x.expired.items Last xs (unreplaced xs x.pushes.items))
  line_is x due xs new =
      let last : ℕ = s.rows.request + length x.ends.items in
      (stages_see s at (Works x.ends.items x.expired.items Last xs (unreplaced xs x.pushes.items)) fine).1 (record {
        ends = x.ends.items;
        timed_out = due.timed_out;
        expired = x.expired.items;
        have_expired = due.have_expired;
        late = late;
        are_late = are_late;
        begun = all_begun at last xs;
        now = Last;
        unanswered = left_unanswered s at last s.rows.charged.last_session late bs xs begin new;
        due = unreplaced xs x.pushes.items;
        are_due = still_due s at last xs x.pushes.items due.are_due;
        work_is = refl;
      })

  abbrev pub work_of : Happening → Work
  work_of x = record { acts = happening_acts at s x; waits = map Ends late }

  pub happens_line : (x : Happening) → HappenWith s at bs x → TickLine s at (work_of x)
  happens_line x h =
      subst (λ l. TickLine s at (Works x.due.ends.items x.due.expired.items x.last x.begun.items l)) (sym h.resent_are)
      (subst (λ n. TickLine s at (Works x.due.ends.items x.due.expired.items n x.begun.items (unreplaced x.begun.items x.due.pushes.items))) (sym h.last_is)
      (line_is x.due h.due x.begun.items h.new_sessions))

  -- without numbers for all sessions, one would pass the last
  passes : (x : Due) → AreDueAt s at x → 0 < length bs → max_whole < Last → PassesLast (TickLine s at) s
  passes x due some last =
      let new = some_sessions s at s.rows.charged.last_session bs (peers_begin s at late bs fine begin) in
      let mark : Change = Put (row.Count counter.Session Last) in
      let differ : nat_eq s.rows.charged.last_session Last ≡ false = ne_eqb s.rows.charged.last_session Last (λ same. omega (arith, same, some)) in
      let count : List Act = counts_of s.rows.charged.last_session Last in
      let begun : List Act = all_begun at (s.rows.request + length x.ends.items) new.0 in
      let resent : List Act = all_resent s.providers at s.rows.pushes (unreplaced new.0 x.pushes.items) in
      let front : List Act = ends_acts at s.rows.commands.pending s.rows.request x.ends.items ++ expired_acts x.expired.items in
      let there : Contains (all_changes count) mark = subst (λ b. Contains (all_changes (map changed (cond b [] (mark ∷ [])))) mark) (sym differ) (in_front mark []) in
      let stored = lift_right front ((count ++ begun) ++ resent) mark (lift_left (count ++ begun) resent mark (lift_left count begun mark there)) in
      record {
        work = Works x.ends.items x.expired.items Last new.0 (unreplaced new.0 x.pushes.items);
        line = line_is x due new.0 new.1;
        past = λ r. let within = r.numbers counter.Session Last stored in omega (arith, within, last);
      }

  pub unnumbered : (x : Due) → AreDueAt s at x → (f : NodeFault) → CannotNumber s (length bs) f → IsOwnFault (TickLine s at) s f
  unnumbered x due NotForMe h = h
  unnumbered x due UnknownOperator h = h
  unnumbered x due UnknownToken h = h
  unnumbered x due StampEnd h = h
  unnumbered x due NumbersUsedUp h = passes x due h.0 h.1
  unnumbered x due Memory h = tt

-- each push that is sent again stands
pub resent_stand : (s : State) (at : ℕ) (bs : List Beginning) (x : Happening) → HappenWith s at bs x → (n : ℕ) → Contains x.resent.items n → IsTrue (contains_key s.rows.pushes n)
resent_stand s at bs x h n i =
    let left : Contains (unreplaced x.begun.items x.due.pushes.items) n = subst (λ l. Contains l n) h.resent_are i in
    due_stands s at n ((h.due.are_due.exact n).0 (left_among x.begun.items x.due.pushes.items n left))

-- from what happens where sessions begin to what happens where authorizations are late
pub all_happen : {E : Type 0} → (s : State) (at : ℕ) (late : List ℕ) (bs : List Beginning) (r : Result Happening E) → AreBeginnings s at late bs → IfOk r (HappenWith s at bs) → IfOk r (IsHappening s at late)
all_happen s at late bs (Ok x) begin h = record { beginnings = bs; begin = begin; happen = h }
all_happen s at late bs (Err e) begin h = tt

-- the authorizations that are due, as a list of just these
pub exactly_due : (w : waits.Waits) (at : ℕ) (numbers : List ℕ) → AreDue w at numbers → AreExactly (waits.IsDue w at) numbers
exactly_due w at numbers h = record { exact = h.exact; in_order = h.in_order }
