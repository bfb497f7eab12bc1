-- What a moment takes of an operator's numbers is one thing.
use Rattle.std.proofs.Common.{◌≡◌, ◌<◌, ◌+◌, ◌++◌, ℕ, List, [], ◌∷◌, length, map, inl, inr, refl, sym, ap, subst, ◌∙◌, arith}
use Rattle.std.specs.Prelude.{Option, Some, None, Contains}
use Rattle.std.specs.Ordering.{ordering_reverse}
use Rattle.std.specs.declared.cmp.Ordering.TheVariants.{Less, Greater}
use Rattle.std.proofs.lemmas.List.{length-map}
use Rattle.tables.specs.Keys.{text_number_cmp, text_number_total}
use Rattle.tables.proofs.Elements.{in_front, in_none, in_single, not_none}
use Rattle.ocpi_text.specs.Text.{key}
use Rattle.ocpi_types.specs.declared.rows.Change.{Change}
use Rattle.ocpi_types.specs.declared.rows.Change.TheVariants.{Drop, Put}
use Rattle.ocpi_types.specs.declared.rows.Counter.TheVariants as counter
use Rattle.ocpi_types.specs.declared.rows.RowKey.TheVariants as keys
use Rattle.ocpi_types.specs.declared.rows.Row.TheVariants as row
use Rattle.ocpi_types.specs.declared.sessions.Session.{Session}
use Rattle.ocpi_types.specs.declared.stored.Push.TheVariants as push
use Rattle.authorization_book.specs.declared.awaited.Awaited.{Awaited}
use Rattle.command_book.specs.Stored as book
use Rattle.outbox.specs.Pushes.{IsAbout, IsReplaced}
use Rattle.reservation_book.specs.declared.standing.Standing.{Standing}
use Rattle.node_steps.specs.Acts.{Act, all_changes, changed}
use Rattle.node_steps.specs.Drafts.{count_change}
use Rattle.operator_rows.specs.State.{State}
use Rattle.operator_rows.specs.Sound.{IsConsistent}
use Rattle.session_tables.specs.declared.beginning.Beginning.{Beginning}
use Rattle.session_tables.specs.Answers.{BeginsWithoutAnswer}
use Rattle.session_tables.specs.Places.{MayTakeAt}
use Rattle.operator_steps.specs.declared.ending.Ending.{Ending}
use Rattle.operator_steps.specs.Acts.{freed, used}
use Rattle.operator_steps.specs.Ends.{all_resent, end_acts, ends_acts, expired_acts}
use Rattle.operator_steps.specs.Moves.{Work}
use Rattle.operator_steps.specs.Sessions.{IsBegun, first_of, versioned}
use Rattle.operator_steps.specs.Tick.{TickLine, request_of}
use Rattle.operator_steps.specs.TickFacts as left
use Rattle.operator_steps.specs.TickFacts.{AreLeftUnanswered, IsLeftUnanswered, IsStillDue, IsTickOf}
use Rattle.operator_steps.proofs.Beginning.{replaced_only}
use Rattle.operator_steps.proofs.BegunChanges.{session_subject}
use Rattle.operator_steps.proofs.Orderly.{of_cons}
use Rattle.operator_laws.proofs.events.Caused.{in_first, in_parts, in_second}
use Rattle.operator_laws.proofs.events.Facts.{stages_see}
use Rattle.refusal_laws.proofs.Listings.{one_listing}
use Rattle.refusal_laws.proofs.OperatorPackets.{begun_tally}
use Rattle.refusal_laws.proofs.Tallies.{nothing, tally, tally_after, tally_parts}

-- ---- commands that time out, and reservations that expire

not_below_both : (x y : ℕ) → x < y → y < x → ⊥
not_below_both x y a b = omega (arith, a, b)

not_less_both : (x y : List ℕ × ℕ) → text_number_cmp x y ≡ Less → text_number_cmp y x ≡ Less → ⊥
not_less_both x y a b =
    let turned : Less ≡ ordering_reverse Less = sym a ∙ text_number_total.antisymm x y ∙ ap ordering_reverse b in
    let bad : Less ≡ Greater = turned in
    cc

ends_tally : (at : ℕ) (m : book.OpenCommands) (k l : ℕ) (xs ys : List Ending) → length xs ≡ length ys → tally (ends_acts at m k xs) ≡ tally (ends_acts at m l ys)
ends_tally at m k l [] [] same = refl
ends_tally at m k l [] (y ∷ ys) same = absurd (omega (arith, same))
ends_tally at m k l (x ∷ xs) [] same = absurd (omega (arith, same))
ends_tally at m k l (x ∷ xs) (y ∷ ys) same =
    tally_parts (end_acts at m k x) (ends_acts at m (k + 1) xs) (end_acts at m l y) (ends_acts at m (l + 1) ys) refl (ends_tally at m (k + 1) (l + 1) xs ys (omega (arith, same)))

expired_tally : (expired : List Standing) → tally (expired_acts expired) ≡ nothing
expired_tally [] = refl
expired_tally (x ∷ xs) = tally_after (freed x.provider x.id ∷ []) (expired_acts xs) refl ∙ expired_tally xs

-- ---- sessions that begin

-- the change by which a push is sent no more
abbrev ends_push : ℕ → Change
ends_push q = Drop (keys.Push q)

module _ (s : State) (at : ℕ) (fine : IsConsistent s) where
  -- a session that begins ends the push about it, where one stands, and no other
  version_drop : (last n q : ℕ) (to : List ℕ) (old : Option ℕ) (v : Session) → IsReplaced s.rows.pushes (Some (session_subject s n)) old → Contains (all_changes (versioned at last to old v)) (ends_push q) →
      IsAbout s.rows.pushes (session_subject s n) q
  version_drop last n q to None v replaces i = elim (of_cons (Put (row.Push (last + 1) to (push.PutSession v))) (Put (row.Session v) ∷ []) (ends_push q) i) [
    | inl same ↦ absurd (cc)
    | inr j ↦ let same = in_single (Put (row.Session v)) (ends_push q) j in absurd (cc)
  ]
  version_drop last n q to (Some k) v replaces i = elim (of_cons (ends_push k) (Put (row.Push (last + 1) to (push.PutSession v)) ∷ (Put (row.Session v) ∷ [])) (ends_push q) i) [
    | inl same ↦ (let number : k ≡ q = cc in subst (λ (z : ℕ). IsAbout s.rows.pushes (session_subject s n) z) number replaces)
    | inr j ↦ elim (of_cons (Put (row.Push (last + 1) to (push.PutSession v))) (Put (row.Session v) ∷ []) (ends_push q) j) [
      | inl same ↦ absurd (cc)
      | inr l ↦ let same = in_single (Put (row.Session v)) (ends_push q) l in absurd (cc)
    ]
  ]

  used_drop : (p : List ℕ) (id : Option (List ℕ)) (q : ℕ) → Contains (all_changes (used p id)) (ends_push q) → ⊥
  used_drop p None q i = in_none (ends_push q) i
  used_drop p (Some id) q i = let same = in_single (Drop (keys.Reservation p id)) (ends_push q) i in cc

  begun_drop : (last n q : ℕ) (b : Beginning) (acts : List Act) → IsBegun s at last n b acts → Contains (all_changes acts) (ends_push q) → IsAbout s.rows.pushes (session_subject s n) q
  begun_drop last n q b acts h i =
      let first = used (key b.token.party) b.reservation_id in
      elim (in_parts first h.first (ends_push q) (subst (λ (l : List Act). Contains (all_changes l) (ends_push q)) h.acts_are i)) [
        | inl j ↦ absurd (used_drop (key b.token.party) b.reservation_id q j)
        | inr j ↦ version_drop last n q h.versioned.to h.versioned.old _ h.versioned.replaces
            (subst (λ (l : List Act). Contains (all_changes l) (ends_push q)) h.versioned.acts_are j)
      ]

  drop_version : (last q : ℕ) (to : List ℕ) (v : Session) → Contains (all_changes (versioned at last to (Some q) v)) (ends_push q)
  drop_version last q to v = in_front (ends_push q) (Put (row.Push (last + 1) to (push.PutSession v)) ∷ (Put (row.Session v) ∷ []))

  drop_begun : (last n q : ℕ) (b : Beginning) (acts : List Act) → IsBegun s at last n b acts → IsAbout s.rows.pushes (session_subject s n) q → Contains (all_changes acts) (ends_push q)
  drop_begun last n q b acts h about =
      let old : h.versioned.old ≡ Some q = replaced_only s.rows.pushes (session_subject s n) h.versioned.old q fine.sound.outbox.one_each h.versioned.replaces about in
      let front : h.first ≡ versioned at last h.versioned.to (Some q) (first_of s at n b) = h.versioned.acts_are ∙ ap (λ (o : Option ℕ). versioned at last h.versioned.to o (first_of s at n b)) old in
      let there : Contains (all_changes h.first) (ends_push q) = subst (λ (l : List Act). Contains (all_changes l) (ends_push q)) (sym front) (drop_version last q h.versioned.to (first_of s at n b)) in
      subst (λ (l : List Act). Contains (all_changes l) (ends_push q)) (sym h.acts_are) (in_second (used (key b.token.party) b.reservation_id) h.first (ends_push q) there)

  -- a session begins without an answer, or none does
  not_left_both : (k : ℕ) (b : Beginning) → IsLeftUnanswered s at k None → IsLeftUnanswered s at k (Some b) → ⊥
  not_left_both k b h g =
      let found : Some g.awaited ≡ Some h.awaited = sym g.stands ∙ h.stands in
      let same : g.awaited ≡ h.awaited = cc in
      h.decided b (subst (λ (w : Awaited). BeginsWithoutAnswer s.site (MayTakeAt s.rows at w.token (key w.place.evse_uid)) w b) same g.decided)

  -- what the sessions take that begin, the last of their numbers, and the pushes that end by them
  record AreAlike (xs ys : List Act) (m n : ℕ) : Type 0 where
    pub take : tally xs ≡ tally ys
    pub last : m ≡ n
    pub drops : (q : ℕ) → Contains (all_changes xs) (ends_push q) → Contains (all_changes ys) (ends_push q)

  late_alike : (last n : ℕ) (ks : List ℕ) (xs : List Act) (m : ℕ) → AreLeftUnanswered s at last n ks xs m → (other j : ℕ) (ls : List ℕ) (ys : List Act) (l : ℕ) →
      AreLeftUnanswered s at other j ls ys l → ks ≡ ls → n ≡ j → AreAlike xs ys m l
  late_alike last n ks xs m (left.None_left a b) other j ls ys l (left.None_left c d) same from = record { take = refl; last = from; drops = λ q i. i }
  late_alike last n ks xs m (left.None_left a b) other j ls ys l (left.Nothing_begins c d k more acts e stays rest) same from = not_none k more (k ∷ more) refl (sym same)
  late_alike last n ks xs m (left.None_left a b) other j ls ys l (left.Begins_session c d k more x begun acts e begins is rest) same from = not_none k more (k ∷ more) refl (sym same)
  late_alike last n ks xs m (left.Nothing_begins a b k more acts e stays rest) other j ls ys l (left.None_left c d) same from = not_none k more (k ∷ more) refl same
  late_alike last n ks xs m (left.Nothing_begins a b k more acts e stays rest) other j ls ys l (left.Nothing_begins c d i others works f also later) same from =
      let tails : more ≡ others = cc in
      late_alike a b more acts e rest c d others works f later tails from
  late_alike last n ks xs m (left.Nothing_begins a b k more acts e stays rest) other j ls ys l (left.Begins_session c d i others x begun works f begins is later) same from =
      let heads : i ≡ k = cc in
      absurd (not_left_both k x stays (subst (λ (z : ℕ). IsLeftUnanswered s at z (Some x)) heads begins))
  late_alike last n ks xs m (left.Begins_session a b k more x begun acts e begins is rest) other j ls ys l (left.None_left c d) same from = not_none k more (k ∷ more) refl same
  late_alike last n ks xs m (left.Begins_session a b k more x begun acts e begins is rest) other j ls ys l (left.Nothing_begins c d i others works f stays later) same from =
      let heads : i ≡ k = cc in
      absurd (not_left_both k x (subst (λ (z : ℕ). IsLeftUnanswered s at z None) heads stays) begins)
  late_alike last n ks xs m (left.Begins_session a b k more x begun acts e begins is rest) other j ls ys l (left.Begins_session c d i others y started works f begin are later) same from =
      let tails : more ≡ others = cc in
      let next : b + 1 ≡ d + 1 = omega (arith, from) in
      let alike = late_alike (a + 1) (b + 1) more acts e rest (c + 1) (d + 1) others works f later tails next in
      let one : tally begun ≡ tally started = begun_tally s at a (b + 1) x begun is ∙ sym (begun_tally s at c (d + 1) y started are) in
      record {
        take = tally_parts begun acts started works one alike.take;
        last = alike.last;
        drops = λ q h. elim (in_parts begun acts (ends_push q) h) [
          | inl here ↦ in_first started works (ends_push q) (drop_begun c (d + 1) q y started are
              (subst (λ (z : ℕ). IsAbout s.rows.pushes (session_subject s z) q) next (begun_drop a (b + 1) q x begun is here)))
          | inr there ↦ in_second started works (ends_push q) (alike.drops q there)
        ];
      }

  -- ---- the whole moment

  one_ends : (h g : (work : Work) × IsTickOf s at work) → length h.1.ends ≡ length g.1.ends
  one_ends h g =
      let same : map request_of h.1.ends ≡ map request_of g.1.ends = one_listing (λ (a b : List ℕ × ℕ). text_number_cmp a b ≡ Less) not_less_both (map request_of h.1.ends) (map request_of g.1.ends)
      h.1.timed_out.due.in_order g.1.timed_out.due.in_order
      (λ z i. (g.1.timed_out.due.exact z).1 ((h.1.timed_out.due.exact z).0 i)) (λ z i. (h.1.timed_out.due.exact z).1 ((g.1.timed_out.due.exact z).0 i)) in
      sym (length-map h.1.ends request_of) ∙ ap length same ∙ length-map g.1.ends request_of

  still_due : (xs ys : List Act) (n : ℕ) → ((q : ℕ) → Contains (all_changes ys) (ends_push q) → Contains (all_changes xs) (ends_push q)) → IsStillDue s at xs n → IsStillDue s at ys n
  still_due xs ys n drops h = record { due = h.due; unreplaced = λ i. h.unreplaced (drops n i) }

  one_tick : (v w : Work) → IsTickOf s at v → IsTickOf s at w → tally v.acts ≡ tally w.acts
  one_tick v w h g =
      let late : h.late ≡ g.late = one_listing (λ (a b : ℕ). a < b) not_below_both h.late g.late h.are_late.in_order g.are_late.in_order
      (λ z i. (g.are_late.exact z).1 ((h.are_late.exact z).0 i)) (λ z i. (h.are_late.exact z).1 ((g.are_late.exact z).0 i)) in
      let alike = late_alike _ _ h.late h.begun h.now h.unanswered _ _ g.late g.begun g.now g.unanswered late refl in
      let turned = late_alike _ _ g.late g.begun g.now g.unanswered _ _ h.late h.begun h.now h.unanswered (sym late) refl in
      let due : h.due ≡ g.due = one_listing (λ (a b : ℕ). a < b) not_below_both h.due g.due h.are_due.in_order g.are_due.in_order
      (λ z i. (g.are_due.exact z).1 (still_due h.begun g.begun z turned.drops ((h.are_due.exact z).0 i)))
      (λ z i. (h.are_due.exact z).1 (still_due g.begun h.begun z alike.drops ((g.are_due.exact z).0 i))) in
      let ends : tally (ends_acts at s.rows.commands.pending s.rows.request h.ends) ≡ tally (ends_acts at s.rows.commands.pending s.rows.request g.ends) =
      ends_tally at s.rows.commands.pending s.rows.request s.rows.request h.ends g.ends (one_ends (v, h) (w, g)) in
      let counts = ap (λ (n : ℕ). tally (map changed (count_change counter.Session s.rows.charged.last_session n))) alike.last in
      let again = ap (λ (numbers : List ℕ). tally (all_resent s.providers at s.rows.pushes numbers)) due in
      ap (λ (x : Work). tally x.acts) h.work_is
      ∙ tally_parts (ends_acts at s.rows.commands.pending s.rows.request h.ends ++ expired_acts h.expired) _ (ends_acts at s.rows.commands.pending s.rows.request g.ends ++ expired_acts g.expired) _
      (tally_parts _ (expired_acts h.expired) _ (expired_acts g.expired) ends (expired_tally h.expired ∙ sym (expired_tally g.expired)))
      (tally_parts (map changed (count_change counter.Session s.rows.charged.last_session h.now) ++ h.begun) _ (map changed (count_change counter.Session s.rows.charged.last_session g.now) ++ g.begun) _
      (tally_parts _ h.begun _ g.begun counts alike.take) again)
      ∙ sym (ap (λ (x : Work). tally x.acts) g.work_is)

  pub one_moment : (v w : Work) → TickLine s at v → TickLine s at w → tally v.acts ≡ tally w.acts
  one_moment v w h g = one_tick v w ((stages_see s at v fine).0 h) ((stages_see s at w fine).0 g)
