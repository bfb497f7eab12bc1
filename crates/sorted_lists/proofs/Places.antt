-- Slots in the order of their keys, by the place of one key.
use Rattle.std.proofs.Common.{◌≡◌, ℕ, zero, suc, true, false, cond, List, [], ◌∷◌, ◌++◌, length, refl, sym, ap, subst, ◌∙◌, arith, slice_index_or, slice_set}
use Rattle.std.specs.Prelude.{Option, Some, None}
use Rattle.std.specs.Ordering.{is_eq, ordering_reverse}
use Rattle.std.specs.declared.cmp.Ordering.{Ordering}
use Rattle.std.specs.declared.cmp.Ordering.TheVariants.{Less, Greater}
use Rattle.std.specs.Cmp.{IsTotalOrder}
use Rattle.std.specs.List.{AllByRecursion, AllWithin, insert}
use Rattle.std.specs.List.Sorted.{IsStrictlySortedBy}
use Rattle.std.specs.Map.{lookup, keys_of}
use Rattle.std.specs.BTreeMap.{is_at}
use Rattle.std.specs.FinMap.{IsAntisymmetric}
use Rattle.std.proofs.lemmas.Cmp.{tied_itself}
use Rattle.std.proofs.lemmas.List.Edits.{insert_end}
use Rattle.std.proofs.lemmas.Map.Keys.{sorted_head, sorted_tail}
use Rattle.tables.proofs.Maps.{equal_of_is_eq}
use Rattle.tables.proofs.Ordered.{turned}
use Rattle.sorted_lists.specs.Slots.{IsGapOf, IsSlotOf}

module _ {K X : Type 0} (R : K → K → Ordering) (k : K) where
  -- the slot at a place is the key's
  unfoldable pub At : List (K × X) → ℕ → Type 0
  At [] i = ⊥
  At (e ∷ es) zero = e.0 ≡ k
  At (e ∷ es) (suc i) = At es i

  -- the key would stand at a place
  unfoldable pub Gap : List (K × X) → ℕ → Type 0
  Gap [] i = i ≡ 0
  Gap (e ∷ es) zero = (R e.0 k ≡ Greater) × AllByRecursion (λ y. R y k ≡ Greater) (keys_of es)
  Gap (e ∷ es) (suc i) = (R e.0 k ≡ Less) × Gap es i

  pub at_of : (es : List (K × X)) (i : ℕ) → IsSlotOf R k es i → At es i
  unfolding At
  at_of [] i h = let below = h.0 in omega arith
  at_of (e ∷ es) zero h = h.1 e
  at_of (e ∷ es) (suc i) h = at_of es i (let below = h.0 in omega arith, λ d. h.1 d)

  above : (es : List (K × X)) → AllWithin (λ e. R e.0 k ≡ Greater) es 0 (length es) → AllByRecursion (λ y. R y k ≡ Greater) (keys_of es)
  above [] h = tt
  above (e ∷ es) h = (h 0 e (omega arith) (omega arith), above es (λ j d low high. h (suc j) d (omega arith) (omega arith)))

  pub gap_of : (es : List (K × X)) (i : ℕ) → IsGapOf R k es i → Gap es i
  unfolding Gap
  gap_of [] i h = let within = h.0 in omega arith
  gap_of (e ∷ es) zero h = above (e ∷ es) h.1.1
  gap_of (e ∷ es) (suc i) h = (
    h.1.0 0 e (omega arith) (omega arith),
    gap_of es i (let within = h.0 in omega arith, (λ j d low high. h.1.0 (suc j) d (omega arith) (omega arith), λ j d low high. h.1.1 (suc j) d (omega arith) (omega arith))),
  )

  pub all_at : (P : K → Type 0) (es : List (K × X)) (i : ℕ) → AllByRecursion P (keys_of es) → At es i → P k
  unfolding At
  all_at P [] i all at = absurd at
  all_at P (e ∷ es) zero all at = subst P at all.0
  all_at P (e ∷ es) (suc i) all at = all_at P es i all.1 at

  -- the keys stay where only a value changes
  pub same_keys : (w : X) (es : List (K × X)) (i : ℕ) → At es i → keys_of (slice_set es i (k, w)) ≡ keys_of es
  unfolding At
  same_keys w [] i at = absurd at
  same_keys w (e ∷ es) zero at = λ j. sym at j ∷ keys_of es
  same_keys w (e ∷ es) (suc i) at = λ j. e.0 ∷ same_keys w es i at j

  -- a key between two others
  all_between : (P : K → Type 0) (w : X) (es : List (K × X)) (i : ℕ) → AllByRecursion P (keys_of es) → P k → AllByRecursion P (keys_of (insert es i (k, w)))
  all_between P w [] zero all p = (p, tt)
  all_between P w [] (suc i) all p = (p, tt)
  all_between P w (e ∷ es) zero all p = (p, all)
  all_between P w (e ∷ es) (suc i) all p = (all.0, all_between P w es i all.1 p)

-- a slot behind all others
pub put_last : {K X : Type 0} (k : K) (w : X) (es fs : List (K × X)) (n : ℕ) → fs ≡ es ++ (k, w) ∷ [] → n ≡ length es → fs ≡ insert es n (k, w)
put_last k w es fs n new last = new ∙ sym (insert_end es (k, w)) ∙ ap (λ i. insert es i (k, w)) (sym last)

module _ {K : Type 0} {R : K → K → Ordering} (o : IsTotalOrder R) where
  -- the order the other way round
  pub greater : (x y : K) → R x y ≡ Less → R y x ≡ Greater
  greater x y h = o.antisymm y x ∙ ap ordering_reverse h

  pub less : (x y : K) → R x y ≡ Greater → R y x ≡ Less
  less x y h = o.antisymm y x ∙ ap ordering_reverse h

  turned_all : (k : K) (ks : List K) → AllByRecursion (λ y. R y k ≡ Greater) ks → AllByRecursion (λ y. R k y ≡ Less) ks
  turned_all k [] h = tt
  turned_all k (x ∷ ks) h = (less x k h.0, turned_all k ks h.1)

module _ {K X : Type 0} {R : K → K → Ordering} (o : IsTotalOrder R) where
  pub sorted_between : (k : K) (w : X) (es : List (K × X)) (i : ℕ) → IsStrictlySortedBy R (keys_of es) → Gap R k es i → IsStrictlySortedBy R (keys_of (insert es i (k, w)))
  unfolding Gap IsStrictlySortedBy
  sorted_between k w [] zero s gap = (tt, tt)
  sorted_between k w [] (suc i) s gap = (tt, tt)
  sorted_between k w (e ∷ es) zero s gap = (turned_all o k (keys_of (e ∷ es)) gap, s)
  sorted_between k w (e ∷ es) (suc i) s gap = (all_between R k (λ y. R e.0 y ≡ Less) w es i s.0 gap.0, sorted_between k w es i s.1 gap.1)

apart : {K : Type 0} {R : K → K → Ordering} → IsTotalOrder R → (k x : K) (r : Ordering) → R x k ≡ r → is_eq r ≡ false → is_at (R k) x ≡ false
apart o k x r h n = turned o k x ∙ ap is_eq h ∙ n

module _ {K X : Type 0} {R : K → K → Ordering} (o : IsTotalOrder R) (exact : IsAntisymmetric R) (k : K) where
  first : (e : K × X) (q : K) (w : X) (new old : Option X) → is_at (R k) e.0 ≡ false → new ≡ cond (is_at (R k) q) (Some w) old →
      cond (is_at (R q) e.0) (Some e.1) new ≡ cond (is_at (R k) q) (Some w) (cond (is_at (R q) e.0) (Some e.1) old)
  first e q w new old differs later =
      elim (is_at (R q) e.0) as (λ b. is_at (R q) e.0 ≡ b → cond b (Some e.1) new ≡ cond (is_at (R k) q) (Some w) (cond b (Some e.1) old)) [
        | true ↦ λ at. ap (λ b. cond b (Some w) (Some e.1)) (sym (ap (is_at (R k)) (exact q e.0 (equal_of_is_eq (R q e.0) at)) ∙ differs))
        | false ↦ λ at. later
      ] refl

  here : (e : K × X) (q : K) (w : X) (old : Option X) → e.0 ≡ k → cond (is_at (R q) k) (Some w) old ≡ cond (is_at (R k) q) (Some w) (cond (is_at (R q) e.0) (Some e.1) old)
  here e q w old is =
      elim (is_at (R q) k) as (λ b. is_at (R q) k ≡ b → cond b (Some w) old ≡ cond (is_at (R k) q) (Some w) (cond (is_at (R q) e.0) (Some e.1) old)) [
        | true ↦ λ at. ap (λ b. cond b (Some w) (cond (is_at (R q) e.0) (Some e.1) old)) (sym (turned o k q ∙ at))
        | false ↦ λ at. (λ j. cond (sym (ap (is_at (R q)) is ∙ at) j) (Some e.1) old) ∙ ap (λ b. cond b (Some w) (cond (is_at (R q) e.0) (Some e.1) old)) (sym (turned o k q ∙ at))
      ] refl

  -- what the keys have where the value of one changes
  pub looked_over : (w : X) (es : List (K × X)) (i : ℕ) → IsStrictlySortedBy R (keys_of es) → At R k es i → (q : K) →
      lookup (is_at (R q)) (slice_set es i (k, w)) ≡ cond (is_at (R k) q) (Some w) (lookup (is_at (R q)) es)
  unfolding At
  looked_over w [] i s at q = absurd at
  looked_over w (e ∷ es) zero s at q = here e q w (lookup (is_at (R q)) es) at
  looked_over w (e ∷ es) (suc i) s at q =
      first e q w (lookup (is_at (R q)) (slice_set es i (k, w))) (lookup (is_at (R q)) es)
      (apart o k e.0 Less (all_at R k (λ y. R e.0 y ≡ Less) es i (sorted_head R e.0 (keys_of es) s) at) refl)
      (looked_over w es i (sorted_tail R e.0 (keys_of es) s) at q)

  -- and where a slot is made for one
  pub looked_between : (w : X) (es : List (K × X)) (i : ℕ) → Gap R k es i → (q : K) →
      lookup (is_at (R q)) (insert es i (k, w)) ≡ cond (is_at (R k) q) (Some w) (lookup (is_at (R q)) es)
  unfolding Gap
  looked_between w [] zero gap q = ap (λ b. cond b (Some w) None) (sym (turned o k q))
  looked_between w [] (suc i) gap q = ap (λ b. cond b (Some w) None) (sym (turned o k q))
  looked_between w (e ∷ es) zero gap q = ap (λ b. cond b (Some w) (lookup (is_at (R q)) (e ∷ es))) (sym (turned o k q))
  looked_between w (e ∷ es) (suc i) gap q =
      first e q w (lookup (is_at (R q)) (insert es i (k, w))) (lookup (is_at (R q)) es) (apart o k e.0 Less gap.0 refl) (looked_between w es i gap.1 q)

  -- what stands at the place of the key
  pub found_at : (es : List (K × X)) (i : ℕ) (d : K × X) → IsStrictlySortedBy R (keys_of es) → At R k es i → lookup (is_at (R k)) es ≡ Some (slice_index_or es i d).1
  unfolding At
  found_at [] i d s at = absurd at
  found_at (e ∷ es) zero d s at = ap (λ b. cond b (Some e.1) (lookup (is_at (R k)) es)) (turned o k e.0 ∙ ap is_eq (ap (λ x. R x k) at ∙ tied_itself o k))
  found_at (e ∷ es) (suc i) d s at =
      ap (λ b. cond b (Some e.1) (lookup (is_at (R k)) es)) (apart o k e.0 Less (all_at R k (λ y. R e.0 y ≡ Less) es i (sorted_head R e.0 (keys_of es) s) at) refl)
      ∙ found_at es i d (sorted_tail R e.0 (keys_of es) s) at

  none_above : (es : List (K × X)) → AllByRecursion (λ y. R y k ≡ Greater) (keys_of es) → lookup (is_at (R k)) es ≡ None
  none_above [] h = refl
  none_above (e ∷ es) h = ap (λ b. cond b (Some e.1) (lookup (is_at (R k)) es)) (apart o k e.0 Greater h.0 refl) ∙ none_above es h.1

  -- no slot is the key's
  pub none_at : (es : List (K × X)) (i : ℕ) → Gap R k es i → lookup (is_at (R k)) es ≡ None
  unfolding Gap
  none_at [] i gap = refl
  none_at (e ∷ es) zero gap = none_above (e ∷ es) gap
  none_at (e ∷ es) (suc i) gap = ap (λ b. cond b (Some e.1) (lookup (is_at (R k)) es)) (apart o k e.0 Less gap.0 refl) ∙ none_at es i gap.1
