-- Lists that have the entries of a finite map, each once, in whatever order.
use Rattle.std.proofs.Common.{◌≡◌, ◌≢◌, List, [], ◌∷◌, map, ap, subst, ◌∙◌}
use Rattle.std.specs.Prelude.{Some, Contains}
use Rattle.std.specs.List.{AllPairs}
use Rattle.std.specs.declared.cmp.Ordering.{Ordering}
use Rattle.std.specs.Cmp.{IsTotalOrder}
use Rattle.std.specs.FinMap.{FinMap, IsAntisymmetric, get, empty, entries, get-empty}
use Rattle.std.proofs.lemmas.List.{map-id}
use Rattle.std.proofs.lemmas.List.Elements.{All-contains, All-map}
use Rattle.std.proofs.lemmas.List.Kept.{AllPairs-cons}
use Rattle.tables.specs.Lookups.{IsListing}
use Rattle.tables.proofs.Elements.{all_of, first_pairs, in_front, in_later, in_map, later_pairs, no_pairs, of_map}
use Rattle.tables.proofs.Entries.{all_apart, listed, listed_only}
use Rattle.tables.proofs.Options.{not_both}

module _ {K X : Type 0} {R : K → K → Ordering} where
  -- of no entry there is none
  pub none_listed : (m : FinMap R X) (es : List (K × X)) → IsListing m es → m ≡ empty → es ≡ []
  none_listed m [] h none = λ i. []
  none_listed m (e ∷ es) h none = absurd (not_both e.1 (get m e.0) (ap (λ n. get n e.0) none ∙ get-empty R e.0) ((h.exact e).0 (in_front e es)))

  -- what is made of listed entries
  module _ {Y : Type 0} (f : K × X → Y) (m : FinMap R X) (list : List (K × X)) (h : IsListing m list) where
    pub found_there : (k : K) (v : X) → get m k ≡ Some v → Contains (map f list) (f (k, v))
    found_there k v e = in_map f list (k, v) ((h.exact (k, v)).1 e)

    pub each_there : (P : Y → Type 0) → ((k : K) (v : X) → get m k ≡ Some v → P (f (k, v))) → (y : Y) → Contains (map f list) y → P y
    each_there P g y i =
        let from = of_map f list y i in
        subst P from.2 (g from.0.0 from.0.1 ((h.exact from.0).0 from.1))

    -- differs, where it differs for entries with other keys
    module _ (A : Y → Y → Type 0) (apart : (a b : K × X) → get m a.0 ≡ Some a.1 → get m b.0 ≡ Some b.1 → a.0 ≢ b.0 → A (f a) (f b)) where
      each_apart : (es : List (K × X)) → ((e : K × X) → Contains es e → get m e.0 ≡ Some e.1) → AllPairs (λ a b. a.0 ≢ b.0) es → AllPairs A (map f es)
      each_apart [] stands d = no_pairs A
      each_apart (e ∷ es) stands d = AllPairs-cons A (f e) (map f es)
          (All-map (A (f e)) f es (all_of (λ y. A (f e) (f y)) es (λ y i. apart e y (stands e (in_front e es)) (stands y (in_later e es y i)) (All-contains (λ z. e.0 ≢ z.0) es y (first_pairs (λ a b. a.0 ≢ b.0) e es d) i))))
          (each_apart es (λ y i. stands y (in_later e es y i)) (later_pairs (λ a b. a.0 ≢ b.0) e es d))

      pub listed_apart : AllPairs A (map f list)
      listed_apart = each_apart list (λ e. (h.exact e).0) h.apart

module _ {K X : Type 0} {R : K → K → Ordering} (o : IsTotalOrder R) (exact : IsAntisymmetric R) where
  -- the entries in the order of their keys are such a list
  pub entries_listed : (m : FinMap R X) → IsListing m (entries m)
  entries_listed m = record {
    exact = λ e. (λ i. listed_only o exact m e.0 e.1 i, λ h. listed o exact m e.0 e.1 h);
    apart = subst (AllPairs (λ a b. a.0 ≢ b.0)) (map-id (entries m)) (all_apart o exact (λ e. e) m (λ a b. a.0 ≢ b.0) (λ a b _ _ d. d));
  }
