-- Where a tagged text is cut.
use Rattle.std.proofs.Common.{◌≡◌, ℕ, ◌<◌, List, [], ◌∷◌, length, get_or, IsTrue, arith}
use Rattle.std.proofs.lemmas.Bool.Decides.{nat_tests}
use Rattle.std.specs.Str.{IsUtf8, IsCharBoundary}
use Rattle.std.proofs.lemmas.Str.{IsCharBoundary-after_ascii}
use Rattle.json_text.specs.Tag.{is_tagged}

tag_is : (s : List ℕ) → IsTrue (is_tagged s) → get_or s 0 0 ≡ 1
tag_is s h = grind (arith, nat_tests)

some_of : (s : List ℕ) → get_or s 0 0 ≡ 1 → 0 < length s
some_of [] h = absurd (omega arith)
some_of (x ∷ xs) h = omega arith

pub cut_here : (s : List ℕ) → IsUtf8 s → IsTrue (is_tagged s) → IsCharBoundary s 1
cut_here s u h = let e = tag_is s h in IsCharBoundary-after_ascii s 0 u (some_of s e) (omega arith)
