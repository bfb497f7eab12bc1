-- Texts that differ.
use Rattle.std.specs.Prelude.{ℕ, List, [], ◌∷◌, ◌++◌, Contains}

-- each text of the second list differs from those of the first, and from those before it
abbrev pub DifferFrom : List (List ℕ) → List (List ℕ) → Type 0
DifferFrom earlier [] = Unit {0}
DifferFrom earlier (x ∷ xs) = (¬ Contains earlier x) × DifferFrom (earlier ++ x ∷ []) xs

-- no two are the same
abbrev pub AllDiffer : List (List ℕ) → Type 0
AllDiffer xs = DifferFrom [] xs
