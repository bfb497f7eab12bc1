-- A text without the JSON spaces around it.
use Rattle.std.proofs.Common.{◌≡◌, ℕ, Bool, true, false, List, [], ◌∷◌, ◌++◌, refl, ap, ◌∙◌}
use Rattle.json.specs.Word.{is_space}
use Rattle.node_lines.specs.ElementTexts.{before_spaces, unless_space}

some_by : (b : Bool) (c d : ℕ) (ds : List ℕ) → unless_space b c (d ∷ ds) ≡ c ∷ d ∷ ds
some_by true c d ds = refl
some_by false c d ds = refl

-- of one more byte at the end
pub space_last : (xs : List ℕ) (c : ℕ) → is_space c ≡ true → before_spaces (xs ++ c ∷ []) ≡ before_spaces xs
unfolding before_spaces
space_last [] c e = rw e refl
space_last (x ∷ xs) c e = ap (unless_space (is_space x) x) (space_last xs c e)

some_last : (b : Bool) (x : ℕ) (xs : List ℕ) (c : ℕ) → unless_space b x (xs ++ c ∷ []) ≡ x ∷ (xs ++ c ∷ [])
some_last b x [] c = some_by b x c []
some_last b x (y ∷ ys) c = some_by b x y (ys ++ c ∷ [])

pub other_last : (xs : List ℕ) (c : ℕ) → is_space c ≡ false → before_spaces (xs ++ c ∷ []) ≡ xs ++ c ∷ []
unfolding before_spaces
other_last [] c e = rw e refl
other_last (x ∷ xs) c e = ap (unless_space (is_space x) x) (other_last xs c e) ∙ some_last (is_space x) x xs c
