-- Lists of texts that differ, taken apart and joined.
use Rattle.std.proofs.Common.{◌≡◌, ◌↔◌, ℕ, suc, ◌+◌, ◌<◌, arith, Bool, ◌||◌, IsTrue, List, [], ◌∷◌, ◌++◌, map, length, take, drop, get_or, Contains, bytes_eq, refl, sym, ap, subst, ◌∙◌}
use Rattle.std.specs.List.{list_any, flat_map}
use Rattle.std.proofs.Math.Seq.{take-suc}
use Rattle.std.proofs.lemmas.Grind.{flat_map-append}
use Rattle.std.specs.Cmp.Lexicographic.{on_texts_equal}
use Rattle.std.proofs.lemmas.Map.Views.{Contains-from_any, list_any-from_Contains}
use Rattle.std.proofs.lemmas.Slice.Eq.{bytes_eq-Decides}
use Rattle.std.proofs.lemmas.List.{append_assoc, append-nil, map-append, take-append-drop}
use Rattle.ocpi_types.specs.Apart.{DifferFrom}

-- those at the front differ
pub front : (earlier xs ys : List (List ℕ)) → DifferFrom earlier (xs ++ ys) → DifferFrom earlier xs
front earlier [] ys d = tt
front earlier (x ∷ xs) ys d = (d.0, front (earlier ++ x ∷ []) xs ys d.1)

-- those behind differ from all before
pub behind : (earlier xs ys : List (List ℕ)) → DifferFrom earlier (xs ++ ys) → DifferFrom (earlier ++ xs) ys
behind earlier [] ys d = subst (λ l. DifferFrom l ys) (sym (append-nil earlier)) d
behind earlier (x ∷ xs) ys d = subst (λ l. DifferFrom l ys) (append_assoc earlier (x ∷ []) xs) (behind (earlier ++ x ∷ []) xs ys d.1)

pub joined : (earlier xs ys : List (List ℕ)) → DifferFrom earlier xs → DifferFrom (earlier ++ xs) ys → DifferFrom earlier (xs ++ ys)
joined earlier [] ys d e = subst (λ l. DifferFrom l ys) (append-nil earlier) e
joined earlier (x ∷ xs) ys d e = (d.0, joined (earlier ++ x ∷ []) xs ys d.1 (subst (λ l. DifferFrom l ys) (sym (append_assoc earlier (x ∷ []) xs)) e))

-- ---- found by a test, pair by pair

pub any_of_map : {X Y : Type 0} (p : Y → Bool) (f : X → Y) (xs : List X) → list_any (λ x. p (f x)) xs ≡ list_any p (map f xs)
any_of_map p f [] = refl
any_of_map p f (x ∷ xs) = ap (λ b. p (f x) || b) (any_of_map p f xs)

-- a test by bytes finds a text just where it stands in the list
pub among : (b : Bool) (xs : List (List ℕ)) (s : List ℕ) → b ≡ list_any (bytes_eq s) xs → IsTrue b ↔ Contains xs s
among b xs s e = (
  λ t. Contains-from_any (λ x y. (bytes_eq-Decides x y).0) s xs (sym e ∙ t),
  λ w. e ∙ list_any-from_Contains (on_texts_equal (λ t. t)) s xs w,
)

-- ---- the first so many of a list

module _ {X : Type 0} (f : X → List ℕ) where
  -- the keys of the first values and of the next
  pub with_next : (xs : List X) (i : ℕ) (d : X) → i < length xs → map f (take (i + 1) xs) ≡ map f (take i xs) ++ f (get_or xs i d) ∷ []
  with_next xs i d within =
      let next : i + 1 ≡ suc i = omega arith in
      ap (λ n. map f (take n xs)) next ∙ ap (map f) (take-suc xs i d within) ∙ map-append f (take i xs) (get_or xs i d ∷ [])

  -- where the next is new as well
  pub next_differs : (earlier : List (List ℕ)) (xs : List X) (i : ℕ) (d : X) → i < length xs → DifferFrom earlier (map f (take i xs))
      → ¬ Contains (earlier ++ map f (take i xs)) (f (get_or xs i d)) → DifferFrom earlier (map f (take (i + 1) xs))
  next_differs earlier xs i d within so_far new = subst (DifferFrom earlier) (sym (with_next xs i d within)) (joined earlier (map f (take i xs)) (f (get_or xs i d) ∷ []) so_far (new, tt))

  -- where all differ, the next is new
  pub next_is_new : (earlier : List (List ℕ)) (xs : List X) (i : ℕ) (d : X) → i < length xs → DifferFrom earlier (map f xs) → ¬ Contains (earlier ++ map f (take i xs)) (f (get_or xs i d))
  next_is_new earlier xs i d within all =
      let parts : map f xs ≡ map f (take (i + 1) xs) ++ map f (drop (i + 1) xs) = ap (map f) (sym (take-append-drop (i + 1) xs)) ∙ map-append f (take (i + 1) xs) (drop (i + 1) xs) in
      let some = front earlier (map f (take (i + 1) xs)) (map f (drop (i + 1) xs)) (subst (DifferFrom earlier) parts all) in
      (behind earlier (map f (take i xs)) (f (get_or xs i d) ∷ []) (subst (DifferFrom earlier) (with_next xs i d within) some)).0

-- the same of lists of which each value gives some
module _ {X : Type 0} (f : X → List (List ℕ)) where
  pub with_part : (xs : List X) (i : ℕ) (d : X) → i < length xs → flat_map f (take (i + 1) xs) ≡ flat_map f (take i xs) ++ f (get_or xs i d)
  with_part xs i d within =
      let next : i + 1 ≡ suc i = omega arith in
      ap (λ n. flat_map f (take n xs)) next ∙ ap (flat_map f) (take-suc xs i d within) ∙ flat_map-append f (take i xs) (get_or xs i d ∷ [])
      ∙ ap (λ l. flat_map f (take i xs) ++ l) (append-nil (f (get_or xs i d)))

  pub part_differs : (earlier : List (List ℕ)) (xs : List X) (i : ℕ) (d : X) → i < length xs → DifferFrom earlier (flat_map f (take i xs))
      → DifferFrom (earlier ++ flat_map f (take i xs)) (f (get_or xs i d)) → DifferFrom earlier (flat_map f (take (i + 1) xs))
  part_differs earlier xs i d within so_far new = subst (DifferFrom earlier) (sym (with_part xs i d within)) (joined earlier (flat_map f (take i xs)) (f (get_or xs i d)) so_far new)

  pub part_is_new : (earlier : List (List ℕ)) (xs : List X) (i : ℕ) (d : X) → i < length xs → DifferFrom earlier (flat_map f xs) → DifferFrom (earlier ++ flat_map f (take i xs)) (f (get_or xs i d))
  part_is_new earlier xs i d within all =
      let parts : flat_map f xs ≡ flat_map f (take (i + 1) xs) ++ flat_map f (drop (i + 1) xs) = ap (flat_map f) (sym (take-append-drop (i + 1) xs)) ∙ flat_map-append f (take (i + 1) xs) (drop (i + 1) xs) in
      let some = front earlier (flat_map f (take (i + 1) xs)) (flat_map f (drop (i + 1) xs)) (subst (DifferFrom earlier) parts all) in
      behind earlier (flat_map f (take i xs)) (f (get_or xs i d)) (subst (DifferFrom earlier) (with_part xs i d within) some)
