-- The slots from a place on, and those that are left when some are swept.
use Rattle.std.proofs.Common.{◌≡◌, ℕ, zero, suc, ◌≤◌, ◌++◌, length, append-nil, arith, Bool, true, false, cond, List, [], ◌∷◌, refl, sym, ap, subst, ◌∙◌, drop, slice_index_or}
use Rattle.std.specs.Prelude.{Some, None}
use Rattle.std.specs.Ordering.{is_le, is_lt}
use Rattle.std.specs.declared.cmp.Ordering.{Ordering}
use Rattle.std.specs.declared.cmp.Ordering.TheVariants.{Less, Greater}
use Rattle.std.specs.Cmp.{IsTotalOrder}
use Rattle.std.specs.List.{AllByRecursion, filter, slice_range}
use Rattle.std.specs.List.Sorted.{IsStrictlySortedBy}
use Rattle.std.specs.Map.{keys_of}
use Rattle.std.specs.FinMap.{IsAntisymmetric, entries}
use Rattle.std.proofs.lemmas.Cmp.{tied_itself}
use Rattle.std.proofs.lemmas.List.{drop_all}
use Rattle.std.proofs.lemmas.List.Folds.{drop_split}
use Rattle.std.proofs.lemmas.Map.Keys.{sorted_head, sorted_tail}
use Rattle.tables.specs.Tables.{shown, shown_of}
use Rattle.tables.proofs.Slots.{listed_shown, shown_passes}
use Rattle.sorted_lists.specs.Slots.{room_in, seen, stands, with_room}
use Rattle.sorted_lists.specs.declared.slots.Slot.{Slot}
use Rattle.sorted_lists.specs.declared.slots.Slot.TheVariants.{Out, Room, Value}
use Rattle.sorted_lists.proofs.Places.{At, Gap, all_at, greater, less}
use Rattle.sorted_lists.proofs.Seen.{sorted_seen}

module _ {K V : Type 0} (p : K → Bool) where
  -- the keys pass from a place on, and none before it
  unfoldable pub PassesFrom : List (K × Slot V) → ℕ → Type 0
  PassesFrom [] i = Unit {0}
  PassesFrom (e ∷ es) zero = AllByRecursion (λ y. p y ≡ true) (keys_of (e ∷ es))
  PassesFrom (e ∷ es) (suc i) = (p e.0 ≡ false) × PassesFrom es i

  all_kept : (es : List (K × Slot V)) → AllByRecursion (λ y. p y ≡ true) (keys_of es) → with_room es ≡ filter (λ e. p e.0) (with_room es)
  all_kept [] h = refl
  all_kept (e ∷ es) h = (λ i. (e.0, room_in e.1) ∷ all_kept es h.1 i) ∙ sym (ap (λ b. cond b ((e.0, room_in e.1) ∷ filter (λ d. p d.0) (with_room es)) (filter (λ d. p d.0) (with_room es))) h.0)

  none_left : (i : ℕ) → with_room (drop {A = K × Slot V} i []) ≡ []
  none_left zero = refl
  none_left (suc i) = refl

  kept : (es : List (K × Slot V)) (i : ℕ) → PassesFrom es i → with_room (drop i es) ≡ filter (λ e. p e.0) (with_room es)
  unfolding PassesFrom
  kept [] i h = none_left i
  kept (e ∷ es) zero h = all_kept (e ∷ es) h
  kept (e ∷ es) (suc i) h = kept es i h.1 ∙ sym (ap (λ b. cond b ((e.0, room_in e.1) ∷ filter (λ d. p d.0) (with_room es)) (filter (λ d. p d.0) (with_room es))) h.0)

  -- the entries that are seen from a place on are those whose keys pass
  pub seen_part : (R : K → K → Ordering) (o : IsTotalOrder R) (exact : IsAntisymmetric R) (es : List (K × Slot V)) (i : ℕ) → IsStrictlySortedBy R (keys_of es) → PassesFrom es i →
      shown (seen (drop i es)) ≡ filter (λ e. p e.0) (entries (shown_of R (seen es)))
  seen_part R o exact es i s h =
      ap (λ fs. shown (shown fs)) (kept es i h) ∙ ap shown (shown_passes p (with_room es)) ∙ shown_passes p (seen es)
      ∙ ap (filter (λ e. p e.0)) (sym (listed_shown R (seen es) (sorted_seen o exact es s)))

module _ {K : Type 0} {R : K → K → Ordering} (o : IsTotalOrder R) (k : K) where
  le_all : (ks : List K) → AllByRecursion (λ y. R y k ≡ Greater) ks → AllByRecursion (λ y. is_le (R k y) ≡ true) ks
  le_all [] h = tt
  le_all (x ∷ ks) h = (ap is_le (less o x k h.0), le_all ks h.1)

  lt_all : (ks : List K) → AllByRecursion (λ y. R y k ≡ Greater) ks → AllByRecursion (λ y. is_lt (R k y) ≡ true) ks
  lt_all [] h = tt
  lt_all (x ∷ ks) h = (ap is_lt (less o x k h.0), lt_all ks h.1)

  le_after : (x : K) (ks : List K) → x ≡ k → AllByRecursion (λ y. R x y ≡ Less) ks → AllByRecursion (λ y. is_le (R k y) ≡ true) ks
  le_after x [] is h = tt
  le_after x (y ∷ ks) is h = (ap is_le (ap (λ z. R z y) (sym is) ∙ h.0), le_after x ks is h.1)

  lt_after : (x : K) (ks : List K) → x ≡ k → AllByRecursion (λ y. R x y ≡ Less) ks → AllByRecursion (λ y. is_lt (R k y) ≡ true) ks
  lt_after x [] is h = tt
  lt_after x (y ∷ ks) is h = (ap is_lt (ap (λ z. R z y) (sym is) ∙ h.0), lt_after x ks is h.1)

module _ {K V : Type 0} {R : K → K → Ordering} (o : IsTotalOrder R) (k : K) where
  all_from : (p : K → Bool) (es : List (K × Slot V)) → AllByRecursion (λ y. p y ≡ true) (keys_of es) → PassesFrom p es 0
  unfolding PassesFrom
  all_from p [] h = tt
  all_from p (e ∷ es) h = h

  -- from the place of the key on, or from where it would stand
  pub from_at : (es : List (K × Slot V)) (i : ℕ) → IsStrictlySortedBy R (keys_of es) → At R k es i → PassesFrom (λ q. is_le (R k q)) es i
  unfolding At PassesFrom
  from_at [] i s at = tt
  from_at (e ∷ es) zero s at = (ap is_le (ap (R k) at ∙ tied_itself o k), le_after o k e.0 (keys_of es) at (sorted_head R e.0 (keys_of es) s))
  from_at (e ∷ es) (suc i) s at = (
    ap is_le (greater o e.0 k (all_at R k (λ y. R e.0 y ≡ Less) es i (sorted_head R e.0 (keys_of es) s) at)),
    from_at es i (sorted_tail R e.0 (keys_of es) s) at,
  )

  pub from_gap : (es : List (K × Slot V)) (i : ℕ) → Gap R k es i → PassesFrom (λ q. is_le (R k q)) es i
  unfolding Gap PassesFrom
  from_gap [] i gap = tt
  from_gap (e ∷ es) zero gap = le_all o k (keys_of (e ∷ es)) gap
  from_gap (e ∷ es) (suc i) gap = (ap is_le (greater o e.0 k gap.0), from_gap es i gap.1)

  -- and what comes after the key
  pub after_at : (es : List (K × Slot V)) (i : ℕ) → IsStrictlySortedBy R (keys_of es) → At R k es i → PassesFrom (λ q. is_lt (R k q)) es (suc i)
  unfolding At PassesFrom
  after_at [] i s at = tt
  after_at (e ∷ es) zero s at = (ap is_lt (ap (R k) at ∙ tied_itself o k), all_from (λ q. is_lt (R k q)) es (lt_after o k e.0 (keys_of es) at (sorted_head R e.0 (keys_of es) s)))
  after_at (e ∷ es) (suc i) s at = (
    ap is_lt (greater o e.0 k (all_at R k (λ y. R e.0 y ≡ Less) es i (sorted_head R e.0 (keys_of es) s) at)),
    after_at es i (sorted_tail R e.0 (keys_of es) s) at,
  )

  pub after_gap : (es : List (K × Slot V)) (i : ℕ) → Gap R k es i → PassesFrom (λ q. is_lt (R k q)) es i
  unfolding Gap PassesFrom
  after_gap [] i gap = tt
  after_gap (e ∷ es) zero gap = lt_all o k (keys_of (e ∷ es)) gap
  after_gap (e ∷ es) (suc i) gap = (ap is_lt (greater o e.0 k gap.0), after_gap es i gap.1)

module _ {K V : Type 0} where
  swept_slot : (k : K) (s : Slot V) (es : List (K × Slot V)) → seen (cond (stands s) ((k, s) ∷ es) es) ≡ seen ((k, s) ∷ es)
  swept_slot k Out es = refl
  swept_slot k Room es = refl
  swept_slot k (Value v) es = refl

  with_slot : (k : K) (s : Slot V) (es fs : List (K × Slot V)) → seen es ≡ seen fs → seen ((k, s) ∷ es) ≡ seen ((k, s) ∷ fs)
  with_slot k Out es fs h = h
  with_slot k Room es fs h = ap (λ gs. (k, None) ∷ gs) h
  with_slot k (Value v) es fs h = ap (λ gs. (k, Some v) ∷ gs) h

  -- what is seen is in the slots that stay
  pub swept : (es : List (K × Slot V)) → seen (filter (λ e. stands e.1) es) ≡ seen es
  swept [] = refl
  swept (e ∷ es) = swept_slot e.0 e.1 (filter (λ d. stands d.1) es) ∙ with_slot e.0 e.1 (filter (λ d. stands d.1) es) es (swept es)

  all_swept : (P : K → Type 0) (es : List (K × Slot V)) → AllByRecursion P (keys_of es) → AllByRecursion P (keys_of (filter (λ e. stands e.1) es))
  all_swept P [] h = tt
  all_swept P (e ∷ es) h =
      elim (stands e.1) as (λ b. AllByRecursion P (keys_of (cond b (e ∷ filter (λ d. stands d.1) es) (filter (λ d. stands d.1) es)))) [
        | true ↦ (h.0, all_swept P es h.1)
        | false ↦ all_swept P es h.1
      ]

  pub sorted_swept : (R : K → K → Ordering) (es : List (K × Slot V)) → IsStrictlySortedBy R (keys_of es) → IsStrictlySortedBy R (keys_of (filter (λ e. stands e.1) es))
  unfolding IsStrictlySortedBy
  sorted_swept R [] s = tt
  sorted_swept R (e ∷ es) s =
      elim (stands e.1) as (λ b. IsStrictlySortedBy R (keys_of (cond b (e ∷ filter (λ d. stands d.1) es) (filter (λ d. stands d.1) es)))) [
        | true ↦ (all_swept (λ y. R e.0 y ≡ Less) es s.0, sorted_swept R es s.1)
        | false ↦ sorted_swept R es s.1
      ]

  nothing_there : (k : K) (s : Slot V) (es : List (K × Slot V)) → stands s ≡ false → seen es ≡ seen ((k, s) ∷ es)
  nothing_there k Out es h = refl
  nothing_there k Room es h = absurd (let f : true ≡ false = h in cc)
  nothing_there k (Value v) es h = absurd (let f : true ≡ false = h in cc)

  -- the first slot goes, in which nothing stands
  pub front_swept : (es : List (K × Slot V)) (e : K × Slot V) → e ≡ slice_index_or es 0 e → stands e.1 ≡ false → seen (drop 1 es) ≡ seen es
  front_swept [] e is out = refl
  front_swept (d ∷ es) e is out = nothing_there d.0 d.1 es (ap (λ x. stands x.1) (sym is) ∙ out)

  pub sorted_behind : (R : K → K → Ordering) (es : List (K × Slot V)) → IsStrictlySortedBy R (keys_of es) → IsStrictlySortedBy R (keys_of (drop 1 es))
  sorted_behind R [] s = s
  sorted_behind R (e ∷ es) s = sorted_tail R e.0 (keys_of es) s

-- no slot is in order
pub sorted_nothing : {K X : Type 0} (R : K → K → Ordering) (es : List (K × X)) → es ≡ [] → IsStrictlySortedBy R (keys_of es)
unfolding IsStrictlySortedBy
sorted_nothing R es e = subst (λ fs. IsStrictlySortedBy R (keys_of fs)) (sym e) tt

-- a part that ends where the list does
pub to_end : {X : Type 0} (es : List X) (i n : ℕ) → n ≡ length es → i ≤ n → slice_range es i n ≡ drop i es
to_end es i n len within =
    sym (drop_split es i n within ∙ ap (λ m. slice_range es i n ++ drop m es) len ∙ ap (λ fs. slice_range es i n ++ fs) (drop_all (length es) es (omega arith)) ∙ append-nil (slice_range es i n))
