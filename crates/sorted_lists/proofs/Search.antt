-- Where a search ends among slots in the order of their keys.
use Rattle.std.proofs.Common.{◌≡◌, ℕ, zero, suc, ◌+◌, ◌-◌, ◌<◌, List, [], ◌∷◌, length, sym, ap, ◌∙◌, arith, slice_index_or, add-one}
use Rattle.std.specs.Prelude.{Ok, Err}
use Rattle.std.specs.Ordering.{is_lt}
use Rattle.std.specs.declared.cmp.Ordering.{Ordering}
use Rattle.std.specs.declared.cmp.Ordering.TheVariants.{Less}
use Rattle.std.specs.declared.result.Result.{Result}
use Rattle.std.specs.Cmp.{IsTotalOrder}
use Rattle.std.specs.List.{AllByRecursion}
use Rattle.std.specs.List.Sorted.{IsBinarySearchResult, IsSearchInRange, IsStrictlySortedBy}
use Rattle.std.specs.Map.{keys_of}
use Rattle.std.specs.FinMap.{IsAntisymmetric}
use Rattle.std.proofs.lemmas.List.Sorted.{searchable_from_sorted}
use Rattle.std.proofs.lemmas.Map.Keys.{sorted_head, sorted_tail}
use Rattle.sorted_lists.specs.Slots.{IsGapOf, IsPlaceOf}
use Rattle.sorted_lists.proofs.Places.{greater}

module _ {K X : Type 0} {R : K → K → Ordering} (o : IsTotalOrder R) where
  rising : (es : List (K × X)) → IsStrictlySortedBy R (keys_of es) → (j : ℕ) (d : K × X) → j + 1 < length es → R (slice_index_or es j d).0 (slice_index_or es (suc j) d).0 ≡ Less
  rising [] s j d h = absurd (omega arith)
  rising (e ∷ []) s j d h = absurd (omega arith)
  rising (e ∷ f ∷ es) s zero d h = (sorted_head R e.0 (keys_of (f ∷ es)) s).0
  rising (e ∷ f ∷ es) s (suc j) d h = rising (f ∷ es) (sorted_tail R e.0 (keys_of (f ∷ es)) s) j d (omega arith)

  -- what a binary search finds
  pub searched : IsAntisymmetric R → (k : K) (es : List (K × X)) → IsStrictlySortedBy R (keys_of es) → (r : Result ℕ ℕ) → IsSearchInRange r (length es) → IsBinarySearchResult (λ e. R e.0 k) es r → IsPlaceOf R k es r
  searched exact k es s (Ok i) range found = (range, λ d. exact _ _ (found d))
  searched exact k es s (Err i) range found = (
    range,
    found (searchable_from_sorted o (λ (e : K × X). e.0) es k (λ j d low high. ap (λ n. is_lt (R (slice_index_or es n d).0 (slice_index_or es j d).0)) (add-one j) ∙ ap is_lt (greater o _ _ (rising es s j d high)))),
  )

  before_last : (k : K) (e : K × X) (es : List (K × X)) (x : K × X) → IsStrictlySortedBy R (keys_of (e ∷ es)) → x ≡ slice_index_or (e ∷ es) (length es) x → R x.0 k ≡ Less → AllByRecursion (λ y. R y k ≡ Less) (keys_of (e ∷ es))
  before_last k e [] x s is h = (ap (λ y. R y.0 k) (sym is) ∙ h, tt)
  before_last k e (f ∷ es) x s is h =
      let later = before_last k f es x (sorted_tail R e.0 (keys_of (f ∷ es)) s) is h in
      (o.trans e.0 f.0 k (sorted_head R e.0 (keys_of (f ∷ es)) s).0 later.0, later)

  by_place : (P : K → Type 0) (es : List (K × X)) (j : ℕ) (d : K × X) → AllByRecursion P (keys_of es) → j < length es → P (slice_index_or es j d).0
  by_place P [] j d h below = absurd (omega arith)
  by_place P (e ∷ es) zero d h below = h.0
  by_place P (e ∷ es) (suc j) d h below = by_place P es j d h.1 (omega arith)

  -- behind the last key
  pub past : (k : K) (es : List (K × X)) (x : K × X) (n : ℕ) → n ≡ length es → IsStrictlySortedBy R (keys_of es) → x ≡ slice_index_or es (length es - 1) x → R x.0 k ≡ Less → IsGapOf R k es n
  past k [] x n len s is h = (omega arith, (λ j d low high. absurd (omega arith), λ j d low high. absurd (omega arith)))
  past k (e ∷ es) x n len s is h = (
    omega arith,
    (
      λ j d low high. by_place (λ y. R y k ≡ Less) (e ∷ es) j d (before_last k e es x s (is ∙ ap (λ m. slice_index_or (e ∷ es) m x) (let m : length {A = K × X} (e ∷ es) - 1 ≡ length es = omega arith in m)) h) (omega arith),
      λ j d low high. absurd (omega arith),
    ),
  )
