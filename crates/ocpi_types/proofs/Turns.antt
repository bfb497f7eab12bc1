-- A turn of a loop that adds the texts of a list to a set, one after the other, as long as each is new.
use Rattle.std.proofs.Common.{◌≡◌, ◌↔◌, ℕ, ◌+◌, ◌<◌, Bool, true, false, true≢false, not, IsTrue, List, [], ◌∷◌, ◌++◌, map, length, take, get_or, refl, sym, ap, subst, ◌∙◌}
use Rattle.std.specs.List.{flat_map}
use Rattle.std.specs.Cmp.Lexicographic.{nat_list_cmp_total}
use Rattle.std.specs.FinSet.{FinSet, contains, insert, from_list, from_list_push}
use Rattle.std.proofs.lemmas.List.{append_assoc}
use Rattle.ocpi_types.specs.Apart.{DifferFrom}
use Rattle.ocpi_types.proofs.Differ.{with_next, next_differs, next_is_new, with_part, part_differs, part_is_new}
use Rattle.ocpi_types.proofs.Ids.{text_cmp, exact, stands, lacks}

known : (t : Bool) → false ≡ not t → t ≡ true
known true e = refl
known false e = absurd (true≢false (sym e))

unknown : (t : Bool) → true ≡ not t → t ≡ false
unknown true e = absurd (true≢false e)
unknown false e = refl

-- one text a value
module _ {X : Type 0} (f : X → List ℕ) (earlier : List (List ℕ)) (xs : List X) (i : ℕ) (x : X) (seen : FinSet text_cmp) (b : Bool) where
  -- it was not new
  pub repeated : i < length xs → x ≡ get_or xs i x → seen ≡ from_list (earlier ++ map f (take i xs)) → b ≡ not (contains seen (f x)) → b ≡ false → ¬ DifferFrom earlier (map f xs)
  repeated within is holds answer n all =
      let there : contains (from_list {R = text_cmp} (earlier ++ map f (take i xs))) (f (get_or xs i x)) ≡ true =
      ap (λ s. contains s (f (get_or xs i x))) (sym holds) ∙ ap (λ y. contains seen (f y)) (sym is) ∙ known (contains seen (f x)) (sym n ∙ answer) in
      next_is_new f earlier xs i x within all (stands _ _ there)

  -- it was new
  pub added : i < length xs → x ≡ get_or xs i x → seen ≡ from_list (earlier ++ map f (take i xs)) → DifferFrom earlier (map f (take i xs)) → b ≡ not (contains seen (f x)) → b ≡ true
      → (after : FinSet text_cmp) → after ≡ insert seen (f x) → (after ≡ from_list (earlier ++ map f (take (i + 1) xs))) × DifferFrom earlier (map f (take (i + 1) xs))
  added within is holds so_far answer n after put =
      let absent : contains (from_list {R = text_cmp} (earlier ++ map f (take i xs))) (f (get_or xs i x)) ≡ false =
      ap (λ s. contains s (f (get_or xs i x))) (sym holds) ∙ ap (λ y. contains seen (f y)) (sym is) ∙ unknown (contains seen (f x)) (sym n ∙ answer) in
      let longer : (earlier ++ map f (take i xs)) ++ f (get_or xs i x) ∷ [] ≡ earlier ++ map f (take (i + 1) xs) =
      append_assoc earlier (map f (take i xs)) (f (get_or xs i x) ∷ []) ∙ ap (λ l. earlier ++ l) (sym (with_next f xs i x within)) in (
        put ∙ (λ j. insert (holds j) (f (is j))) ∙ sym (from_list_push nat_list_cmp_total exact (earlier ++ map f (take i xs)) (f (get_or xs i x))) ∙ ap (from_list {R = text_cmp}) longer,
        next_differs f earlier xs i x within so_far (lacks _ _ absent),
      )

-- several texts a value
module _ {X : Type 0} (f : X → List (List ℕ)) (xs : List X) (i : ℕ) (x : X) (texts : List (List ℕ)) (b : Bool) where
  -- some were not new
  pub part_repeated : i < length xs → x ≡ get_or xs i x → texts ≡ f x → IsTrue b ↔ DifferFrom (flat_map f (take i xs)) texts → b ≡ false → ¬ DifferFrom [] (flat_map f xs)
  part_repeated within is are answer n all =
      true≢false (sym (answer.1 (subst (DifferFrom (flat_map f (take i xs))) (ap f (sym is) ∙ sym are) (part_is_new f [] xs i x within all))) ∙ n)

  -- all were new
  pub part_added : i < length xs → x ≡ get_or xs i x → texts ≡ f x → IsTrue b ↔ DifferFrom (flat_map f (take i xs)) texts → DifferFrom [] (flat_map f (take i xs)) → b ≡ true
      → (after : FinSet text_cmp) → (IsTrue b → after ≡ from_list (flat_map f (take i xs) ++ texts))
      → (after ≡ from_list (flat_map f (take (i + 1) xs))) × DifferFrom [] (flat_map f (take (i + 1) xs))
  part_added within is are answer so_far n after put =
      let same : texts ≡ f (get_or xs i x) = are ∙ ap f is in (
        put n ∙ ap (λ l. from_list {R = text_cmp} (flat_map f (take i xs) ++ l)) same ∙ ap (from_list {R = text_cmp}) (sym (with_part f xs i x within)),
        part_differs f [] xs i x within so_far (subst (DifferFrom (flat_map f (take i xs))) same (answer.0 n)),
      )
