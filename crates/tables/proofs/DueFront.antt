-- The front of a queue: what is due at a moment, in order, and each key once.
use Rattle.std.proofs.Common.{◌≡◌, ◌≢◌, ◌<◌, ◌≤◌, ℕ, List, [], ◌∷◌, map, inl, inr, true, false, cond, T, refl, sym, ap}
use Rattle.std.proofs.Common.{subst, ◌∙◌, arith, get_or, Contains, nat_le, take_while}
use Rattle.std.specs.List.{AllPairs}
use Rattle.std.specs.List.Sorted.{IsSorted, IsPermutation}
use Rattle.std.specs.Ordering.{eq_by_cmp, is_eq, is_lt, is_gt, nat_cmp, ordering_reverse}
use Rattle.std.specs.declared.cmp.Ordering.{Ordering}
use Rattle.std.specs.declared.cmp.Ordering.TheVariants.{Less, Equal, Greater}
use Rattle.std.specs.Cmp.{IsTotalOrder, eq_by_cmp_equiv, nat_cmp_total}
use Rattle.std.specs.FinMap.{FinMap, IsAntisymmetric, nat_cmp-IsAntisymmetric, is_sorted, entries}
use Rattle.std.proofs.lemmas.Cmp.{on_total, then_total}
use Rattle.std.proofs.lemmas.List.Elements.{Contains-append_right, Contains-append_cases}
use Rattle.std.proofs.lemmas.List.Kept.{AllPairs-cons}
use Rattle.std.proofs.lemmas.List.Sorted.{sorted_far, ranks_by}
use Rattle.std.proofs.lemmas.List.Sums.{take_while-cons}
use Rattle.std.proofs.lemmas.Map.Keys.{le_from_not_gt, IsDistinct-from_apart, IsDistinct-IsPermutation, apart_from_distinct}
use Rattle.std.proofs.lemmas.Bool.Decides.{nat_tests}
use Rattle.tables.specs.Keys.{pair_cmp, pair_exact}
use Rattle.tables.specs.Queues.{due_front}
use Rattle.tables.specs.Tables.{HasNone}
use Rattle.tables.proofs.Options.{not_both}
use Rattle.tables.proofs.Maps.{equal_of_is_eq}
use Rattle.tables.proofs.Ordered.{former, latter}
use Rattle.tables.proofs.Elements.{in_none, in_single, in_front, all_of, no_pairs}
use Rattle.tables.proofs.Entries.{below_each, listed_only, apart_of_less}
use Rattle.tables.proofs.Parts.{first_part_le}

early : (a b : ℕ) → nat_le a b ≡ true → a ≤ b
early a b h = grind (arith, nat_tests)

late : (a b : ℕ) → nat_le a b ≡ false → b < a
late a b h = grind (arith, nat_tests)

is_early : (a b : ℕ) → a ≤ b → nat_le a b ≡ true
is_early a b h = grind (arith, nat_tests)

is_late : (a b : ℕ) → is_gt (nat_cmp a b) ≡ true → nat_le a b ≡ false
is_late a b h = grind (arith, nat_tests)

abbrev pub Entry : Type 0 → Type 0
Entry K = (ℕ × K) × Unit {0}

module _ {K : Type 0} where
  module _ (at : ℕ) where
    front_step : (e : Entry K) (es : List (Entry K)) → due_front at (e ∷ es) ≡ cond (nat_le e.0.0 at) (e.0.1 ∷ due_front at es) []
    front_step e es = ap (map (λ (e : Entry K). e.0.1)) (take_while-cons (λ (e : Entry K). nat_le e.0.0 at) e es) ∙
        elim (nat_le e.0.0 at) as (λ b. map (λ (e : Entry K). e.0.1) (cond b (e ∷ take_while (λ (e : Entry K). nat_le e.0.0 at) es) []) ≡ cond b (e.0.1 ∷ due_front at es) []) [ true ↦ refl | false ↦ refl ]

    -- one more entry is taken, or the first that is not due ends it
    pub front_more : (e : Entry K) (es : List (Entry K)) → is_gt (nat_cmp e.0.0 at) ≡ false → due_front at (e ∷ es) ≡ e.0.1 ∷ due_front at es
    front_more e es h = front_step e es ∙ ap (λ b. cond b (e.0.1 ∷ due_front at es) []) (let less = le_from_not_gt e.0.0 at h in is_early e.0.0 at less)

    pub front_ends : (e : Entry K) (es : List (Entry K)) → is_gt (nat_cmp e.0.0 at) ≡ true → due_front at (e ∷ es) ≡ []
    front_ends e es h = front_step e es ∙ ap (λ b. cond b (e.0.1 ∷ due_front at es) []) (is_late e.0.0 at h)

    -- what is taken is due
    pub taken : (es : List (Entry K)) (k : K) → Contains (due_front at es) k → (d : ℕ) × (d ≤ at) × Contains es ((d, k), tt)
    taken [] k h = absurd (in_none k h)
    taken (e ∷ es) k h = elim (nat_le e.0.0 at) as (λ b. nat_le e.0.0 at ≡ b → Contains (cond b (e.0.1 ∷ due_front at es) []) k → (d : ℕ) × (d ≤ at) × Contains (e ∷ es) ((d, k), tt)) [
      | true ↦ λ due i. elim (Contains-append_cases (e.0.1 ∷ []) (due_front at es) k i) [
        | inl j ↦ (e.0.0, early e.0.0 at due, subst (λ z. Contains (e ∷ es) ((e.0.0, z), tt)) (in_single e.0.1 k j) (in_front e es))
        | inr j ↦ let from = taken es k j in (from.0, from.1, Contains-append_right (e ∷ []) es ((from.0, k), tt) from.2)
      ]
      | false ↦ λ _ i. absurd (in_none k i)
    ] refl (subst (λ l. Contains l k) (front_step e es) h)

module _ {K : Type 0} {R : K → K → Ordering} (o : IsTotalOrder R) (exact : IsAntisymmetric R) where
  pub queue_total : IsTotalOrder (pair_cmp nat_cmp R)
  queue_total = then_total (on_total (λ (p : ℕ × K). p.0) nat_cmp_total) (on_total (λ (p : ℕ × K). p.1) o)

  pub queue_exact : IsAntisymmetric (pair_cmp nat_cmp R)
  queue_exact = pair_exact nat_cmp R nat_cmp-IsAntisymmetric exact

  -- an earlier entry has no later moment
  rises : (a b : ℕ × K) → pair_cmp nat_cmp R a b ≡ Less → a.0 ≤ b.0
  rises a b h = le_from_not_gt a.0 b.0 (first_part_le (nat_cmp a.0 b.0) (R a.1 b.1) (ap is_gt h))

  module _ (at : ℕ) where
    -- what is due is taken
    pub is_taken : (es : List (Entry K)) → T (is_sorted (pair_cmp nat_cmp R) es) → (d : ℕ) (k : K) → d ≤ at → Contains es ((d, k), tt) → Contains (due_front at es) k
    is_taken [] h d k due i = absurd (in_none _ i)
    is_taken (e ∷ es) h d k due i = subst (λ l. Contains l k) (sym (front_step at e es)) (elim (nat_le e.0.0 at) as (λ b. nat_le e.0.0 at ≡ b → Contains (cond b (e.0.1 ∷ due_front at es) []) k) [
      | true ↦ λ _. elim (Contains-append_cases (e ∷ []) es ((d, k), tt) i) [
        | inl j ↦ subst (λ z. Contains (z ∷ due_front at es) k) (sym (λ n. (in_single e ((d, k), tt) j n).0.1)) (in_front k (due_front at es))
        | inr j ↦ Contains-append_right (e.0.1 ∷ []) (due_front at es) k (is_taken es (latter _ _ h) d k due j)
      ]
      | false ↦ λ behind. absurd (elim (Contains-append_cases (e ∷ []) es ((d, k), tt) i) [
        | inl j ↦ let same : e.0.0 ≡ d = (λ n. (in_single e ((d, k), tt) j n).0.0) in let after = late e.0.0 at behind in omega arith
        | inr j ↦ let later = rises e.0 (d, k) (below_each (pair_cmp nat_cmp R) e.0 es (former _ _ h) ((d, k), tt) j) in let after = late e.0.0 at behind in omega arith
      ])
    ] refl)

    -- each key is in the queue by one moment
    abbrev pub OneMoment : List (Entry K) → Type 0
    OneMoment es = (d e : ℕ) (k : K) → Contains es ((d, k), tt) → Contains es ((e, k), tt) → d ≡ e

    -- so none is taken twice
    pub taken_once : (es : List (Entry K)) → T (is_sorted (pair_cmp nat_cmp R) es) → OneMoment es → AllPairs (λ a b. a ≢ b) (due_front at es)
    taken_once [] h one = no_pairs (λ a b. a ≢ b)
    taken_once (e ∷ es) h one = subst (AllPairs (λ a b. a ≢ b)) (sym (front_step at e es)) (elim (nat_le e.0.0 at) as (λ b. AllPairs (λ a b. a ≢ b) (cond b (e.0.1 ∷ due_front at es) [])) [
      | true ↦ AllPairs-cons (λ a b. a ≢ b) e.0.1 (due_front at es) (all_of (λ k. e.0.1 ≢ k) (due_front at es) new)
          (taken_once es (latter _ _ h) (λ d f k i j. one d f k (Contains-append_right (e ∷ []) es _ i) (Contains-append_right (e ∷ []) es _ j)))
      | false ↦ no_pairs (λ (a b : K). a ≢ b)
    ])
      where
        new : (k : K) → Contains (due_front at es) k → e.0.1 ≢ k
        new k i same =
            let from = taken at es k i in
            let until : e.0.0 ≡ from.0 = one e.0.0 from.0 k (subst (λ z. Contains (e ∷ es) ((e.0.0, z), tt)) same (in_front e es)) (Contains-append_right (e ∷ []) es _ from.2) in
            apart_of_less queue_total e.0 (from.0, k) (below_each (pair_cmp nat_cmp R) e.0 es (former _ _ h) ((from.0, k), tt) from.2) (λ n. (until n, same n))

  -- where no key of a queue is due, its front is empty
  pub none_due : (at : ℕ) (m : FinMap (pair_cmp nat_cmp R) (Unit {0})) → HasNone (pair_cmp nat_cmp R) m (λ q. q.0 ≤ at) → due_front at (entries m) ≡ []
  none_due at m none = go (due_front at (entries m)) (λ k i. let from = taken at (entries m) k i in not_both tt _ (none (from.0, k) from.1) (listed_only queue_total queue_exact m (from.0, k) tt from.2))
    where
      go : (ks : List K) → ((k : K) → Contains ks k → ⊥) → ks ≡ []
      go [] h = refl
      go (k ∷ ks) h = absurd (h k (in_front k ks))

  turned : (a b : K) (r : Ordering) → R a b ≡ r → is_lt (R b a) ≡ false → is_eq r ≡ false → r ≡ Less
  turned a b Less e not_below apart = refl
  turned a b Equal e not_below apart = absurd (let f : true ≡ false = apart in cc)
  turned a b Greater e not_below apart = absurd (let f : true ≡ false = sym (ap is_lt (o.antisymm b a ∙ ap ordering_reverse e)) ∙ not_below in cc)

  untied : (x y : K) → x ≢ y → eq_by_cmp R x y ≡ false
  untied x y apart = elim (eq_by_cmp R x y) as (λ b. eq_by_cmp R x y ≡ b → b ≡ false) [ true ↦ λ e. absurd (apart (exact x y (equal_of_is_eq (R x y) e))) | false ↦ λ e. refl ] refl

  -- keys that differ, once they are sorted
  pub rise : (xs ys : List K) → AllPairs (λ a b. a ≢ b) xs → IsPermutation xs ys → IsSorted R ys → AllPairs (λ a b. R a b ≡ Less) ys
  rise xs ys apart moved up i j d below bound =
      let distinct = IsDistinct-IsPermutation (eq_by_cmp R) (eq_by_cmp_equiv o).symm xs ys moved (IsDistinct-from_apart (eq_by_cmp R) xs (λ i j d below bound. untied _ _ (apart i j d below bound))) in
      turned (get_or ys i d) (get_or ys j d) _ refl (sorted_far (λ x y. is_lt (R x y)) (ranks_by o (λ x. x)) ys up i j d (omega arith) bound) (apart_from_distinct (eq_by_cmp R) ys i j d distinct below bound)
