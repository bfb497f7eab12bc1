-- What is written of a line while it is read: its bytes, but for a carriage return before its line feed.
use Rattle.std.specs.Prelude.{◌≡◌, ◌≢◌, ℕ, Bool, true, false, List, [], ◌∷◌, ◌++◌, All, cond, length, take, Option, IfSome}
use Rattle.std.specs.Io.KnownBytes.{Appends, Consumes, Keeps}
use Rattle.std.specs.Io.BufRead.{ends_with_byte, first_line, strip_last}
use Rattle.line_runs.specs.Lines.{TakesPart}
use Rattle.line_runs.specs.declared.outcome.RunFault.{RunFault}
use Rattle.line_runs.specs.declared.outcome.RunFault.TheVariants.{WriteFailed}

-- the carriage return that was held back, if one was
abbrev pub held_bytes : Bool → List ℕ
held_bytes held = cond held (13 ∷ []) []

-- a further part of a line, behind a carriage return that was held back, and without one at its own end
abbrev pub passed : Bool → List ℕ → List ℕ
passed held [] = []
passed held (x ∷ xs) = held_bytes held ++ strip_last 13 (x ∷ xs)

-- whether a carriage return is held back behind a further part
abbrev pub holds_back : Bool → List ℕ → Bool
holds_back held [] = held
holds_back held (x ∷ xs) = ends_with_byte 13 (x ∷ xs)

-- what is written of a part of a line, and where the line is done, of its last part, which ends with the line feed
-- unless the input ended
abbrev pub part_echo : Bool → Bool → List ℕ → List ℕ
part_echo false held part = passed held part
part_echo true held [] = held_bytes held
part_echo true held (x ∷ xs) = passed held (take (length xs) (x ∷ xs))

-- a part of a line was echoed, where that is asked for
abbrev pub EchoesPart : Bool → Bool → Bool → List ℕ → Bool → Option (List ℕ) → Option (List ℕ) → Type 0
EchoesPart false done held part after old new = Keeps old new
EchoesPart true done held part after old new = (done ≡ false → after ≡ holds_back held part) × Appends old new (part_echo done held part)

-- a beginning of that was written
abbrev pub BeginsPart : Bool → Bool → Bool → List ℕ → Option (List ℕ) → Option (List ℕ) → Type 0
BeginsPart false done held part old new = Keeps old new
BeginsPart true done held part old new = (n : ℕ) × Appends old new (take n (part_echo done held part))

-- a beginning of what the echo of a next part is, and nothing where no write failed
abbrev pub CutsPart : Bool → RunFault → Bool → Option (List ℕ) → Option (List ℕ) → Option (List ℕ) → Type 0
CutsPart echo fault held text old new = (fault ≢ WriteFailed → Keeps old new)
    × ((done : Bool) × (part : List ℕ) × (rest : Option (List ℕ)) × TakesPart text done part rest × BeginsPart echo done held part old new)

-- what of a line without its end was read is echoed, but for a carriage return at its end
abbrev pub EchoesFront : Bool → List ℕ → Option (List ℕ) → Option (List ℕ) → Type 0
EchoesFront false front old new = Keeps old new
EchoesFront true front old new = Appends old new (strip_last 13 front)

-- the next line is echoed, where a reader tells it: its bytes, without its end
abbrev pub EchoesLine : Bool → Option (List ℕ) → Option (List ℕ) → Option (List ℕ) → Type 0
EchoesLine false text old new = Keeps old new
EchoesLine true text old new = IfSome text (λ t. Appends old new (first_line t))

-- the same: a beginning of it was written
abbrev pub BeginsLine : Bool → Option (List ℕ) → Option (List ℕ) → Option (List ℕ) → Type 0
BeginsLine false text old new = Keeps old new
BeginsLine true text old new = IfSome text (λ t. (front more : List ℕ) × (first_line t ≡ front ++ more) × Appends old new front)

-- A part of a line was read. Where no write failed, just that was echoed.
abbrev pub CutsLine : Bool → RunFault → Option (List ℕ) → Option (List ℕ) → Option (List ℕ) → Option (List ℕ) → Type 0
CutsLine echo fault text rest old new = (part : List ℕ) × Consumes text rest part × All (λ b. b ≢ 10) part
    × (fault ≢ WriteFailed → EchoesFront echo part old new)
