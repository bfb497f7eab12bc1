-- Which part of a run is written, and what of it the output gets.
use Rattle.std.specs.Prelude.{ℕ, ◌&&◌, Bool, true, false, List, Option, cond, length, nat_lt, take}
use Rattle.std.specs.Io.BufRead.{ends_with_byte}
use Rattle.std.specs.Io.KnownBytes.{Appends}
use Rattle.transcript_files.specs.declared.part.Part.{Part}
use Rattle.transcript_files.specs.declared.part.Part.TheVariants.{Beginning, Line, Echoed, Answer}

-- Whether the output gets these bytes too: those of an answer. Where a line could begin, bytes are an answer that end
-- with a line feed and are more than that: the line feed that ends an echo is written by itself.
abbrev pub is_told : Part → List ℕ → Bool
is_told Beginning bytes = false
is_told Line bytes = nat_lt 1 (length bytes) && ends_with_byte 10 bytes
is_told Echoed bytes = false
is_told Answer bytes = true

-- the part behind these bytes
abbrev pub part_after : Part → List ℕ → Part
part_after Beginning bytes = Beginning
part_after Line bytes = cond (ends_with_byte 10 bytes) (cond (nat_lt 1 (length bytes)) Answer Echoed) Line
part_after Echoed bytes = Echoed
part_after Answer bytes = Answer

-- the part behind a flush
abbrev pub part_flushed : Part → Part
part_flushed Beginning = Line
part_flushed Line = Line
part_flushed Echoed = Answer
part_flushed Answer = Line

-- an output got these bytes, or where it was cut there a beginning of them
abbrev pub Tells : Bool → Option (List ℕ) → Option (List ℕ) → List ℕ → Type 0
Tells false old new bytes = Appends old new bytes
Tells true old new bytes = (n : ℕ) × Appends old new (take n bytes)
