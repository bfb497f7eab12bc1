-- The setup of a run, as its file has it.
use Rattle.std.specs.Prelude.{ℕ, Bool, List, [], ◌∷◌, ◌++◌, Option, None, Some, ◌||◌, ◌&&◌, ◌==◌, if◌then◌else◌, codes, decimal, drop, length, map, nat_lt, slice_index, take}
use Rattle.std.specs.Io.BufRead.{strip_last}

-- the first byte is a brace
abbrev pub begins_object : List ℕ → Bool
begins_object text = nat_lt 0 (length text) && (slice_index text 0 == 123)

-- a byte of a file, as a line has it: the end of a line becomes a space
abbrev pub in_line : ℕ → ℕ
in_line byte = if byte == 10 || byte == 13 then 32 else byte

-- a text without the end of its last line
abbrev pub without_end : List ℕ → List ℕ
without_end text = strip_last 13 (strip_last 10 text)

-- the member `line` of a setup, where its number is given
abbrev pub line_member : Option ℕ → List ℕ
line_member None = []
line_member (Some number) = codes "\"line\":" ++ (decimal number ++ codes ",")

-- a text as one line, with that member after its first byte
abbrev pub numbered : Option ℕ → List ℕ → List ℕ
numbered number text = map in_line (take 1 text) ++ (line_member number ++ map in_line (drop 1 text))

-- the one line that the text of a file makes, with its end
abbrev pub line_of : Option ℕ → List ℕ → List ℕ
line_of number text = numbered number (without_end text) ++ (10 ∷ [])
