-- The lines of an input, and what one read of a line takes of it.
use Rattle.std.specs.Prelude.{◌≡◌, ◌≢◌, ℕ, ◌<◌, Bool, true, false, List, [], All, length, take, filter, nat_lt, Option, None, Some, OnSome, ⊤}
use Rattle.std.specs.Str.Lines.{lines}
use Rattle.std.specs.Io.{StopsAt, IsEmptyOrEndsWith}
use Rattle.std.specs.Io.KnownBytes.{Consumes, IsAtEnd}
use Rattle.std.specs.Io.BufRead.{first_line, drop_through}

-- the lines that hold something: the parts between line feeds, each part before a line feed without a carriage return
-- at its end
abbrev pub lines_of : List ℕ → List (List ℕ)
lines_of text = filter (λ line. nat_lt 0 (length line)) (lines text)

-- the bytes of a line that one look at a reader's buffer takes: no line feed but at their end. The line is done where
-- they end with one, or where the input ended before them.
pub record TakesPart (old : Option (List ℕ)) (done : Bool) (bytes : List ℕ) (new : Option (List ℕ)) : Type 0 where
  pub consumed : Consumes old new bytes
  pub stops : StopsAt bytes 10
  pub plain : done ≢ true → All (λ b. b ≢ 10) bytes
  pub ended : done ≡ true → IsEmptyOrEndsWith bytes 10
  pub at_end : done ≡ true → length bytes ≡ 0 → OnSome old (IsAtEnd new)

-- no line was left, or the first one was read, its first `most` bytes kept
abbrev pub ReadsLine : ℕ → List ℕ → Bool → List ℕ → List ℕ → Type 0
ReadsLine most text false line rest = (text ≡ []) × (rest ≡ [])
ReadsLine most text true line rest = (0 < length text) × (line ≡ take most (first_line text)) × (rest ≡ drop_through 10 text)

-- the same of a reader, where it tells its bytes
abbrev pub ReadsLineOf : ℕ → Option (List ℕ) → Bool → List ℕ → Option (List ℕ) → Type 0
ReadsLineOf most None some line rest = ⊤
ReadsLineOf most (Some text) some line None = ⊥
ReadsLineOf most (Some text) some line (Some rest) = ReadsLine most text some line rest

-- what was taken from a reader is part of a line
abbrev pub IsInLine : Option (List ℕ) → Option (List ℕ) → Type 0
IsInLine old new = (part : List ℕ) × Consumes old new part × All (λ b. b ≢ 10) part
