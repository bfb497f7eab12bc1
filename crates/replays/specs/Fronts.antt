-- The lines of a text, by its line feeds.
use Rattle.std.specs.Prelude.{ℕ, zero, suc, List, [], ◌∷◌, cond, ◌==◌}

-- how many line feeds a text has
unfoldable pub feeds_of : List ℕ → ℕ
feeds_of [] = 0
feeds_of (c ∷ text) = cond (c == 10) (suc (feeds_of text)) (feeds_of text)

-- what stands in front of so many line feeds, and they
unfoldable pub lines_front : ℕ → List ℕ → List ℕ
lines_front zero text = []
lines_front (suc n) [] = []
lines_front (suc n) (c ∷ text) = c ∷ cond (c == 10) (lines_front n text) (lines_front (suc n) text)
