-- The next run of a file.
use Rattle.std.specs.Prelude.{◌≡◌, ◌≢◌, ◌↔◌, ◌≤◌, ◌+◌, ◌^◌, ℕ, List, [], ◌∷◌, ◌++◌, IsTrue, length}
use Rattle.replays.specs.Cutting.{BeginsAnew, EndsRun, HasNoEmptyLine, feeds}
use Rattle.replays.specs.Fronts.{feeds_of}
use Rattle.replays.specs.declared.cutting.RunText.{RunText}
use Rattle.replays.specs.declared.cutting.Runs.{Runs}

-- The text behind the line feeds in front, up to an empty line or the end of the file: a line feed more, which stands
-- behind it, may be of it, where two more follow. Its first line has its number, as that of what is left.
pub record IsNextRun (all : Runs) (r : RunText) (left : Runs) : Type 0 where
  pub count : ℕ
  pub is : all.rest.now ≡ feeds count ++ (r.bytes.now ++ left.rest.now)
  pub first : ℕ
  pub others : List ℕ
  pub some : r.bytes.now ≡ first ∷ others
  pub begins : first ≢ 10
  pub ends : (before : List ℕ) → r.bytes.now ≢ before ++ 10 ∷ []
  pub plain : HasNoEmptyLine r.bytes.now
  pub behind_is : EndsRun left.rest.now
  pub after : ℕ
  pub more : List ℕ
  pub rest_is : left.rest.now ≡ feeds after ++ more
  pub anew : BeginsAnew more
  pub closed : IsTrue r.is_ended ↔ (3 ≤ after)
  pub number : r.number ≡ all.number + count
  pub next : left.number ≡ r.number + feeds_of r.bytes.now

-- the numbers of all lines that are left can be told
abbrev pub HasNumbers : ℕ → List ℕ → Type 0
HasNumbers number rest = number + length rest ≤ 2 ^ 63
