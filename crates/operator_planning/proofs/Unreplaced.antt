-- Pushes that are due and that no session which begins replaces.
use Rattle.std.proofs.Common.{◌≡◌, ◌<◌, ◌+◌, ◌++◌, ◌⊎◌, ◌≤◌, ℕ, Bool, true, false, cond, List, [], ◌∷◌, length, get_or, drop, inl, inr, refl, sym, ap, subst, ◌∙◌}
use Rattle.std.specs.Prelude.{Option, Some, None, Contains, not, ◌||◌}
use Rattle.std.specs.List.{filter}
use Rattle.std.proofs.lemmas.Bool.{eqb-true, eq-eqb}
use Rattle.std.proofs.lemmas.List.{append_assoc, append-nil, drop_all, drop_more}
use Rattle.std.proofs.lemmas.List.Kept.{AllPairs-filter}
use Rattle.std.proofs.lemmas.List.Elements.{Contains-append_cases, Contains-append_left, Contains-append_right}
use Rattle.tables.proofs.Elements.{in_front, in_none, in_single}
use Rattle.ocpi_types.specs.declared.rows.Change.{Change}
use Rattle.ocpi_types.specs.declared.rows.Change.TheVariants.{Put, Drop}
use Rattle.ocpi_types.specs.declared.rows.Row.TheVariants as row
use Rattle.ocpi_types.specs.declared.rows.RowKey.TheVariants as keys
use Rattle.ocpi_types.specs.declared.sessions.Session.{Session}
use Rattle.ocpi_types.specs.declared.stored.Push.TheVariants as push
use Rattle.outbox.specs.Due.{AreExactly, IsDue}
use Rattle.node_steps.specs.Acts.{all_changes, all_requests}
use Rattle.node_steps.proofs.Gathering.{changes_append}
use Rattle.operator_rows.specs.State.{State, as_outbox}
use Rattle.operator_steps.specs.Acts.{used}
use Rattle.operator_steps.specs.Sessions.{versioned}
use Rattle.operator_steps.specs.TickFacts.{IsStillDue}
use Rattle.operator_steps.proofs.Orderly.{in_later, of_cons}
use Rattle.operator_planning.specs.Happenings.{is_number, is_replaced, unreplaced}
use Rattle.operator_planning.specs.Planned.{all_begun, begun_acts}
use Rattle.operator_planning.specs.declared.sessions.Begun.{Begun}

-- what a filter keeps
module _ (p : ℕ → Bool) where
  kept_by : (b : Bool) (x : ℕ) (xs : List ℕ) (y : ℕ) → ((x ≡ y) × (b ≡ true)) ⊎ Contains xs y → Contains (cond b (x ∷ xs) xs) y
  kept_by true x xs y (inl is) = subst (Contains (x ∷ xs)) is.0 (in_front x xs)
  kept_by true x xs y (inr i) = in_later x xs y i
  kept_by false x xs y (inl is) = absurd (let bad : false ≡ true = is.1 in cc)
  kept_by false x xs y (inr i) = i

  passes : (ks : List ℕ) (y : ℕ) → p y ≡ true → Contains ks y → Contains (filter p ks) y
  passes [] y h i = absurd (in_none y i)
  passes (k ∷ ks) y h i = kept_by (p k) k (filter p ks) y (elim (of_cons k ks y i) [ inl same ↦ inl (same, ap p same ∙ h) | inr j ↦ inr (passes ks y h j) ])

  of_kept : (b : Bool) (x : ℕ) (xs : List ℕ) (y : ℕ) → p x ≡ b → Contains (cond b (x ∷ xs) xs) y → ((x ≡ y) × (b ≡ true)) ⊎ Contains xs y
  of_kept true x xs y is i = elim (of_cons x xs y i) [ inl same ↦ inl (same, refl) | inr j ↦ inr j ]
  of_kept false x xs y is i = inr i

  passed : (ks : List ℕ) (y : ℕ) → Contains (filter p ks) y → (p y ≡ true) × Contains ks y
  passed [] y i = absurd (in_none y i)
  passed (k ∷ ks) y i = elim (of_kept (p k) k (filter p ks) y refl i) [
    | inl here ↦ (ap p (sym here.0) ∙ here.1, subst (Contains (k ∷ ks)) here.0 (in_front k ks))
    | inr j ↦ let more = passed ks y j in (more.0, in_later k ks y more.1)
  ]

-- one session: which push its first version replaces
module _ (at last n : ℕ) (p to : List ℕ) (v : Session) where
  abbrev Mark : Change
  Mark = Drop (keys.Push n)

  not_last : Contains (Put (row.Push (last + 1) to (push.PutSession v)) ∷ (Put (row.Session v) ∷ [])) Mark → ⊥
  not_last i = elim (of_cons (Put (row.Push (last + 1) to (push.PutSession v))) (Put (row.Session v) ∷ []) Mark i) [
    | inl is ↦ let never : Put (row.Push (last + 1) to (push.PutSession v)) ≡ Mark = is in cc
    | inr j ↦ let never : Put (row.Session v) ≡ Mark = in_single (Put (row.Session v)) Mark j in cc
  ]

  of_version : (old : Option ℕ) → Contains (all_changes (versioned at last to old v)) Mark → is_number old n ≡ true
  of_version None i = absurd (not_last i)
  of_version (Some k) i = elim (of_cons (Drop (keys.Push k)) (Put (row.Push (last + 1) to (push.PutSession v)) ∷ (Put (row.Session v) ∷ [])) Mark i) [
    | inl is ↦ let same : k ≡ n = cc in eq-eqb k n same
    | inr j ↦ absurd (not_last j)
  ]

  in_version : (old : Option ℕ) → is_number old n ≡ true → Contains (all_changes (versioned at last to old v)) Mark
  in_version None h = absurd (let never : false ≡ true = h in cc)
  in_version (Some k) h =
      let same : k ≡ n = eqb-true k n h in
      subst (λ j. Contains (all_changes (versioned at last to (Some k) v)) (Drop (keys.Push j))) same (in_front (Drop (keys.Push k)) (Put (row.Push (last + 1) to (push.PutSession v)) ∷ (Put (row.Session v) ∷ [])))

  of_begun_with : (used_id : Option (List ℕ)) (old : Option ℕ) → Contains (all_changes (used p used_id ++ versioned at last to old v)) Mark → is_number old n ≡ true
  of_begun_with None old i = of_version old i
  of_begun_with (Some id) old i = elim (of_cons (Drop (keys.Reservation p id)) (all_changes (versioned at last to old v)) Mark i) [
    | inl is ↦ absurd (let never : Drop (keys.Reservation p id) ≡ Mark = is in cc)
    | inr j ↦ of_version old j
  ]

  in_begun_with : (used_id : Option (List ℕ)) (old : Option ℕ) → is_number old n ≡ true → Contains (all_changes (used p used_id ++ versioned at last to old v)) Mark
  in_begun_with None old h = in_version old h
  in_begun_with (Some id) old h = in_later (Drop (keys.Reservation p id)) (all_changes (versioned at last to old v)) Mark (in_version old h)

either : (a b : Bool) → (a ≡ true) ⊎ (b ≡ true) → (a || b) ≡ true
either true b h = refl
either false b (inl h) = absurd (let never : false ≡ true = h in cc)
either false b (inr h) = h

one_of : (a b : Bool) → (a || b) ≡ true → (a ≡ true) ⊎ (b ≡ true)
one_of true b h = inl refl
one_of false b h = inr h

-- and all of them
pub replaced_of : (at n last : ℕ) (xs : List Begun) → Contains (all_changes (all_begun at last xs)) (Drop (keys.Push n)) → is_replaced xs n ≡ true
replaced_of at n last [] i = absurd (in_none _ i)
replaced_of at n last (x ∷ xs) i =
    let first = begun_acts at last x in
    let rest = all_begun at (last + all_requests first) xs in
    elim (Contains-append_cases (all_changes first) (all_changes rest) (Drop (keys.Push n)) (subst (λ l. Contains l (Drop (keys.Push n))) (changes_append first rest) i)) [
      | inl j ↦ either (is_number x.first.older n) (is_replaced xs n) (inl (of_begun_with at last n x.provider x.first.to x.first.version x.reservation_id x.first.older j))
      | inr j ↦ either (is_number x.first.older n) (is_replaced xs n) (inr (replaced_of at n (last + all_requests first) xs j))
    ]

pub of_replaced : (at n last : ℕ) (xs : List Begun) → is_replaced xs n ≡ true → Contains (all_changes (all_begun at last xs)) (Drop (keys.Push n))
of_replaced at n last [] h = absurd (let never : false ≡ true = h in cc)
of_replaced at n last (x ∷ xs) h =
    let first = begun_acts at last x in
    let rest = all_begun at (last + all_requests first) xs in
    let all : Contains (all_changes first ++ all_changes rest) (Drop (keys.Push n)) = elim (one_of (is_number x.first.older n) (is_replaced xs n) h) [
      | inl here ↦ Contains-append_left (all_changes first) (all_changes rest) (Drop (keys.Push n)) (in_begun_with at last n x.provider x.first.to x.first.version x.reservation_id x.first.older here)
      | inr more ↦ Contains-append_right (all_changes first) (all_changes rest) (Drop (keys.Push n)) (of_replaced at n (last + all_requests first) xs more)
    ] in
    subst (λ l. Contains l (Drop (keys.Push n))) (sym (changes_append first rest)) all

refuted : (b : Bool) → not b ≡ true → b ≡ true → ⊥
refuted true h g = let never : false ≡ true = h in cc
refuted false h g = let never : false ≡ true = g in cc

denied : (b : Bool) → (b ≡ true → ⊥) → not b ≡ true
denied true h = absurd (h refl)
denied false h = refl

pub left_among : (xs : List Begun) (numbers : List ℕ) (n : ℕ) → Contains (unreplaced xs numbers) n → Contains numbers n
left_among xs numbers n i = (passed (λ k. not (is_replaced xs k)) numbers n i).1

-- so those that are left are due still
pub still_due : (s : State) (at last : ℕ) (xs : List Begun) (due : List ℕ) → AreExactly (IsDue (as_outbox s.rows) s.resend at) due → AreExactly (IsStillDue s at (all_begun at last xs)) (unreplaced xs due)
still_due s at last xs due are = record {
  exact = λ n. (
    (λ i.
        let kept = passed (λ k. not (is_replaced xs k)) due n i in
        record { due = (are.exact n).0 kept.1; unreplaced = λ j. refuted (is_replaced xs n) kept.0 (replaced_of at n last xs j) }),
    (λ h. passes (λ k. not (is_replaced xs k)) due n (denied (is_replaced xs n) (λ r. h.unreplaced (of_replaced at n last xs r))) ((are.exact n).1 h.due)),
  );
  in_order = AllPairs-filter (λ a b. a < b) (λ k. not (is_replaced xs k)) due are.in_order;
}

-- a loop that looks for a session which replaces the push
module _ (n : ℕ) (xs : List Begun) (i : ℕ) (x : Begun) (within : i < length xs) (is : x ≡ get_or xs i x) where
  front : is_replaced (drop i xs) n ≡ (is_number x.first.older n || is_replaced (drop (i + 1) xs) n)
  front = ap (λ l. is_replaced l n) (drop_more xs i x within) ∙ ap (λ (y : Begun). is_number y.first.older n || is_replaced (drop (i + 1) xs) n) (sym is)

  pub replaced_here : is_number x.first.older n ≡ true → is_replaced (drop i xs) n ≡ is_replaced xs n → true ≡ is_replaced xs n
  replaced_here here so = sym (front ∙ ap (λ b. b || is_replaced (drop (i + 1) xs) n) here) ∙ so

  pub replaced_later : is_number x.first.older n ≡ false → is_replaced (drop i xs) n ≡ is_replaced xs n → is_replaced (drop (i + 1) xs) n ≡ is_replaced xs n
  replaced_later not_here so = sym (front ∙ ap (λ b. b || is_replaced (drop (i + 1) xs) n) not_here) ∙ so

-- a loop that leaves the replaced ones out
module _ (xs : List Begun) (numbers left : List ℕ) (i n : ℕ) (within : i < length numbers) (is : n ≡ get_or numbers i n) (so : left ++ unreplaced xs (drop i numbers) ≡ unreplaced xs numbers) where
  rest : unreplaced xs (drop i numbers) ≡ cond (not (is_replaced xs n)) (n ∷ unreplaced xs (drop (i + 1) numbers)) (unreplaced xs (drop (i + 1) numbers))
  rest = ap (unreplaced xs) (drop_more numbers i n within ∙ ap (λ k. k ∷ drop (i + 1) numbers) (sym is))

  pub one_left : is_replaced xs n ≡ false → (left ++ n ∷ []) ++ unreplaced xs (drop (i + 1) numbers) ≡ unreplaced xs numbers
  one_left absent =
      append_assoc left (n ∷ []) (unreplaced xs (drop (i + 1) numbers))
      ∙ ap (λ l. left ++ l) (sym (rest ∙ ap (λ b. cond (not b) (n ∷ unreplaced xs (drop (i + 1) numbers)) (unreplaced xs (drop (i + 1) numbers))) absent)) ∙ so

  pub one_out : is_replaced xs n ≡ true → left ++ unreplaced xs (drop (i + 1) numbers) ≡ unreplaced xs numbers
  one_out present = ap (λ l. left ++ l) (sym (rest ∙ ap (λ b. cond (not b) (n ∷ unreplaced xs (drop (i + 1) numbers)) (unreplaced xs (drop (i + 1) numbers))) present)) ∙ so

pub all_left : (xs : List Begun) (numbers left : List ℕ) (i : ℕ) → length numbers ≤ i → left ++ unreplaced xs (drop i numbers) ≡ unreplaced xs numbers → left ≡ unreplaced xs numbers
all_left xs numbers left i past so = sym (append-nil left) ∙ sym (ap (λ l. left ++ unreplaced xs l) (drop_all i numbers past)) ∙ so
