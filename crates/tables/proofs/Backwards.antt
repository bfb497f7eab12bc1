-- Lists of slots from the latest key on, read from the earliest.
use Rattle.std.proofs.Common.{◌≡◌, Bool, true, false, cond, not, List, [], ◌∷◌, ◌++◌, reverse, refl, sym, ap, subst, ◌∙◌}
use Rattle.std.specs.Prelude.{Option, Some, None, is_some}
use Rattle.std.specs.Ordering.{flip_args, is_eq, is_le, is_lt, ordering_reverse}
use Rattle.std.specs.declared.cmp.Ordering.{Ordering}
use Rattle.std.specs.declared.cmp.Ordering.TheVariants.{Less, Equal, Greater}
use Rattle.std.specs.declared.ops.Bound.{Bound}
use Rattle.std.specs.declared.ops.Bound.TheVariants.{Included, Excluded, Unbounded}
use Rattle.std.specs.Cmp.{IsTotalOrder}
use Rattle.std.specs.List.{AllByRecursion, filter}
use Rattle.std.specs.List.Sorted.{IsStrictlySortedBy}
use Rattle.std.specs.Map.{lookup, keys_of}
use Rattle.std.specs.BTreeMap.{is_at}
use Rattle.std.specs.BTreeMap.Range.{entries_between, entries_from, range_contains}
use Rattle.std.specs.FinMap.{IsAntisymmetric, entries}
use Rattle.std.proofs.lemmas.Map.Keys.{sorted_head, sorted_tail}
use Rattle.std.proofs.lemmas.List.{append-nil, map-append}
use Rattle.std.proofs.lemmas.List.Elements.{filter-append}
use mathlib.Core.List.{reverse-cons}
use Rattle.tables.specs.Keys.{back_exact}
use Rattle.tables.specs.Tables.{shown, shown_of, entries_after}
use Rattle.tables.proofs.Maps.{equal_of_is_eq}
use Rattle.tables.proofs.Ordered.{all_pass, turned}
use Rattle.tables.proofs.Slots.{listed_shown, same_filter, shown_passes}

not_below : (r : Ordering) → not (is_lt (ordering_reverse r)) ≡ is_le r
not_below Less = refl
not_below Equal = refl
not_below Greater = refl

not_up_to : (r : Ordering) → not (is_le (ordering_reverse r)) ≡ is_lt r
not_up_to Less = refl
not_up_to Equal = refl
not_up_to Greater = refl

-- the first, or else the second
abbrev or_else : {X : Type 0} → Option X → Option X → Option X
or_else None o = o
or_else (Some x) o = Some x

or_none : {X : Type 0} (o : Option X) → or_else o None ≡ o
or_none None = refl
or_none (Some x) = refl

module _ {K : Type 0} where
  all_then : (P : K → Type 0) (xs ys : List K) → AllByRecursion P xs → AllByRecursion P ys → AllByRecursion P (xs ++ ys)
  all_then P [] ys a b = b
  all_then P (x ∷ xs) ys a b = (a.0, all_then P xs ys a.1 b)

  all_back : (P : K → Type 0) (xs : List K) → AllByRecursion P xs → AllByRecursion P (reverse xs)
  all_back P [] a = tt
  all_back P (x ∷ xs) a = subst (AllByRecursion P) (sym (reverse-cons x xs)) (all_then P (reverse xs) (x ∷ []) (all_back P xs a.1) (a.0, tt))

  filter_back : (p : K → Bool) (xs : List K) → filter p (reverse xs) ≡ reverse (filter p xs)
  filter_back p [] = refl
  filter_back p (x ∷ xs) =
      ap (filter p) (reverse-cons x xs) ∙ filter-append p (reverse xs) (x ∷ []) ∙ ap (λ ys. ys ++ filter p (x ∷ [])) (filter_back p xs)
      ∙ elim (p x) as (λ b. reverse (filter p xs) ++ cond b (x ∷ []) [] ≡ reverse (cond b (x ∷ filter p xs) (filter p xs))) [
        | true ↦ sym (reverse-cons x (filter p xs))
        | false ↦ append-nil (reverse (filter p xs))
      ]

keys_back : {K X : Type 0} (es : List (K × X)) → keys_of (reverse es) ≡ reverse (keys_of es)
keys_back [] = refl
keys_back (e ∷ es) = ap keys_of (reverse-cons e es) ∙ map-append (λ d. d.0) (reverse es) (e ∷ []) ∙ ap (λ ks. ks ++ e.0 ∷ []) (keys_back es) ∙ sym (reverse-cons e.0 (keys_of es))

sorted_then : {K : Type 0} (R : K → K → Ordering) (xs : List K) (x : K) → IsStrictlySortedBy R xs → AllByRecursion (λ y. R y x ≡ Less) xs → IsStrictlySortedBy R (xs ++ x ∷ [])
unfolding IsStrictlySortedBy
sorted_then R [] x s a = (tt, tt)
sorted_then R (y ∷ ys) x s a = (all_then (λ z. R y z ≡ Less) ys (x ∷ []) s.0 (a.0, tt), sorted_then R ys x s.1 a.1)

sorted_keys : {K : Type 0} (R : K → K → Ordering) (ks : List K) → IsStrictlySortedBy (flip_args R) ks → IsStrictlySortedBy R (reverse ks)
unfolding IsStrictlySortedBy
sorted_keys R [] s = tt
sorted_keys R (k ∷ ks) s = subst (IsStrictlySortedBy R) (sym (reverse-cons k ks)) (sorted_then R (reverse ks) k (sorted_keys R ks s.1) (all_back (λ y. R y k ≡ Less) ks s.0))

module _ {K X : Type 0} (R : K → K → Ordering) where
  pub sorted_back : (es : List (K × X)) → IsStrictlySortedBy (flip_args R) (keys_of es) → IsStrictlySortedBy R (keys_of (reverse es))
  sorted_back es s = subst (IsStrictlySortedBy R) (sym (keys_back es)) (sorted_keys R (keys_of es) s)

  none_at : (q : K) (es : List (K × X)) → AllByRecursion (λ y. R q y ≡ Less) (keys_of es) → lookup (is_at (R q)) es ≡ None
  none_at q [] h = refl
  none_at q (e ∷ es) h = ap (λ r. cond (is_eq r) (Some e.1) (lookup (is_at (R q)) es)) h.0 ∙ none_at q es h.1

looked_then : {K X : Type 0} (p : K → Bool) (es fs : List (K × X)) → lookup p (es ++ fs) ≡ or_else (lookup p es) (lookup p fs)
looked_then p [] fs = refl
looked_then p (e ∷ es) fs = elim (p e.0) as (λ b. cond b (Some e.1) (lookup p (es ++ fs)) ≡ or_else (cond b (Some e.1) (lookup p es)) (lookup p fs)) [ true ↦ refl | false ↦ looked_then p es fs ]

module _ {K X : Type 0} {R : K → K → Ordering} (o : IsTotalOrder R) (exact : IsAntisymmetric R) where
  last_looked : (q : K) (e : K × X) (es : List (K × X)) → IsStrictlySortedBy (flip_args R) (keys_of (e ∷ es)) →
      or_else (lookup (is_at (flip_args R q)) es) (cond (is_at (R q) e.0) (Some e.1) None) ≡ cond (is_at (flip_args R q) e.0) (Some e.1) (lookup (is_at (flip_args R q)) es)
  last_looked q e es s =
      ap (λ b. or_else (lookup (is_at (flip_args R q)) es) (cond b (Some e.1) None)) (turned o q e.0)
      ∙ elim (is_at (flip_args R q) e.0) as (λ b. is_at (flip_args R q) e.0 ≡ b → or_else (lookup (is_at (flip_args R q)) es) (cond b (Some e.1) None) ≡ cond b (Some e.1) (lookup (is_at (flip_args R q)) es)) [
        | true ↦ λ at. ap (λ l. or_else l (Some e.1)) (none_at (flip_args R) q es
            (subst (λ x. AllByRecursion (λ y. R y x ≡ Less) (keys_of es)) (sym (back_exact exact q e.0 (equal_of_is_eq (R e.0 q) at))) (sorted_head (flip_args R) e.0 (keys_of es) s)))
        | false ↦ λ at. or_none (lookup (is_at (flip_args R q)) es)
      ] refl

  -- a key is found from either end
  pub looked_back : (q : K) (es : List (K × X)) → IsStrictlySortedBy (flip_args R) (keys_of es) → lookup (is_at (R q)) (reverse es) ≡ lookup (is_at (flip_args R q)) es
  looked_back q [] s = refl
  looked_back q (e ∷ es) s =
      ap (lookup (is_at (R q))) (reverse-cons e es) ∙ looked_then (is_at (R q)) (reverse es) (e ∷ [])
      ∙ ap (λ l. or_else l (lookup (is_at (R q)) (e ∷ []))) (looked_back q es (sorted_tail (flip_args R) e.0 (keys_of es) s)) ∙ last_looked q e es s

  -- and so is what changed under one key
  pub changed_back : (es fs : List (K × X)) (k : K) (w : Option X) → IsStrictlySortedBy (flip_args R) (keys_of es) → IsStrictlySortedBy (flip_args R) (keys_of fs) →
      ((q : K) → lookup (is_at (flip_args R q)) fs ≡ cond (is_at (flip_args R k) q) w (lookup (is_at (flip_args R q)) es)) →
      (q : K) → lookup (is_at (R q)) (reverse fs) ≡ cond (is_at (R k) q) w (lookup (is_at (R q)) (reverse es))
  changed_back es fs k w s t h q =
      looked_back q fs t ∙ h q ∙ ap (λ b. cond b w (lookup (is_at (flip_args R q)) es)) (turned o q k)
      ∙ ap (cond (is_at (R k) q) w) (sym (looked_back q es s))

module _ {K X : Type 0} {R : K → K → Ordering} (o : IsTotalOrder R) (exact : IsAntisymmetric R) (es fs : List (K × Option X)) (k : K) (s : IsStrictlySortedBy (flip_args R) (keys_of es)) where
  -- a slot that is made where there was none
  pub found_back : (is_some (lookup (is_at (flip_args R k)) es) ≡ true → fs ≡ es) → is_some (lookup (is_at (R k)) (reverse es)) ≡ true → reverse fs ≡ reverse es
  found_back found h = ap reverse (found (ap is_some (sym (looked_back o exact k es s)) ∙ h))

  pub made_back :
      (lookup (is_at (flip_args R k)) es ≡ None →
      ((q : K) → lookup (is_at (flip_args R q)) fs ≡ cond (is_at (flip_args R k) q) (Some None) (lookup (is_at (flip_args R q)) es)) × IsStrictlySortedBy (flip_args R) (keys_of fs)) →
      lookup (is_at (R k)) (reverse es) ≡ None →
      ((q : K) → lookup (is_at (R q)) (reverse fs) ≡ cond (is_at (R k) q) (Some None) (lookup (is_at (R q)) (reverse es))) × IsStrictlySortedBy R (keys_of (reverse fs))
  made_back made none =
      let it = made (sym (looked_back o exact k es s) ∙ none) in
      (changed_back o exact es fs k (Some None) s it.1 it.0, sorted_back R fs it.1)

module _ {K X : Type 0} (R : K → K → Ordering) where
  -- the part of what is shown whose keys lie between two bounds
  seen : (lo hi : Bound K) (p : K → Bool) → ((q : K) → range_contains (flip_args R) lo hi q ≡ p q) → (es : List (K × Option X)) → IsStrictlySortedBy (flip_args R) (keys_of es) →
      shown (reverse (entries_between (flip_args R) lo hi es)) ≡ filter (λ e. p e.0) (entries (shown_of R (reverse es)))
  seen lo hi p same es s =
      ap shown (sym (filter_back (λ e. range_contains (flip_args R) lo hi e.0) es)) ∙ shown_passes (range_contains (flip_args R) lo hi) (reverse es)
      ∙ same_filter (range_contains (flip_args R) lo hi) p same (shown (reverse es)) ∙ ap (filter (λ e. p e.0)) (sym (listed_shown R (reverse es) (sorted_back R es s)))

  pub seen_all : (es : List (K × Option X)) → IsStrictlySortedBy (flip_args R) (keys_of es) → shown (reverse (entries_between (flip_args R) Unbounded Unbounded es)) ≡ entries (shown_of R (reverse es))
  seen_all es s = seen Unbounded Unbounded (λ q. true) (λ q. refl) es s ∙ all_pass R (entries (shown_of R (reverse es)))

module _ {K X : Type 0} {R : K → K → Ordering} (o : IsTotalOrder R) where
  pub seen_from : (k : K) (es : List (K × Option X)) → IsStrictlySortedBy (flip_args R) (keys_of es) → shown (reverse (entries_between (flip_args R) Unbounded (Included k) es)) ≡ entries_from (R k) (entries (shown_of R (reverse es)))
  seen_from k = seen R Unbounded (Included k) (λ q. is_le (R k q)) (λ q. ap (λ r. not (is_lt r)) (o.antisymm q k) ∙ not_below (R k q))

  pub seen_after : (k : K) (es : List (K × Option X)) → IsStrictlySortedBy (flip_args R) (keys_of es) → shown (reverse (entries_between (flip_args R) Unbounded (Excluded k) es)) ≡ entries_after (R k) (entries (shown_of R (reverse es)))
  seen_after k = seen R Unbounded (Excluded k) (λ q. is_lt (R k q)) (λ q. ap (λ r. not (is_le r)) (o.antisymm q k) ∙ not_up_to (R k q))
