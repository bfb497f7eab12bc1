-- What a run over the lines of an input writes, and how much it reads.
use Rattle.std.specs.Prelude.{◌≡◌, ◌≢◌, ◌⊎◌, ℕ, ◌≤◌, List, [], ◌∷◌, ◌++◌, All, Option, Some, IfSome, length, take}
use Rattle.std.specs.Str.Lines.{lines}
use Rattle.std.specs.Io.{IsEmptyOrEndsWith}
use Rattle.std.specs.Io.KnownBytes.{Appends, Consumes, Keeps}
use Rattle.line_runs.specs.Lines.{lines_of}
use Rattle.line_runs.specs.Outcome.{both_ran}
use Rattle.line_runs.specs.declared.outcome.Ran.{Ran}
use Rattle.line_runs.specs.declared.outcome.Ran.TheVariants.{Whole, WithRefusals}
use Rattle.line_runs.specs.declared.outcome.RunFault.{RunFault}
use Rattle.line_runs.specs.declared.outcome.RunFault.TheVariants.{TooManyReads}
use Rattle.line_runs.specs.declared.run.Turn.{Turn}
use Rattle.line_runs.specs.declared.run.Turn.TheVariants.{Taken, Refused, Ended}

-- the most lines that a run reads
abbrev pub most_reads : ℕ
most_reads = 1000000000

-- From the state `first` these lines were answered one after another by these bytes, each at the state that the lines
-- before it left, and none ended the run. It is whole where none was refused.
pub data AreAnswered {S : Type 0} (line_gives : S → List ℕ → Turn → List ℕ → S → Type 0) (first : S) : List (List ℕ) → Ran → List ℕ → S → Type 0 where
  none_yet : AreAnswered line_gives first [] Whole [] first
  taken : {s t : S} {line : List ℕ} {before : List (List ℕ)} {ran : Ran} {out more : List ℕ} → AreAnswered line_gives first before ran out s
      → line_gives s line Taken more t → AreAnswered line_gives first (before ++ line ∷ []) ran (out ++ more) t
  refused : {s t : S} {line : List ℕ} {before : List (List ℕ)} {ran : Ran} {out more : List ℕ} → AreAnswered line_gives first before ran out s
      → line_gives s line Refused more t → AreAnswered line_gives first (before ++ line ∷ []) WithRefusals (out ++ more) t

-- The lines of an input may give these bytes and leave this state: all are answered, and then its end, which changes
-- no state; or those up to a line that ends the run.
pub data IsRun {S : Type 0} (line_gives : S → List ℕ → Turn → List ℕ → S → Type 0) (end_gives : S → Ran → List ℕ → Type 0) (first : S)
    : List (List ℕ) → Ran → List ℕ → S → Type 0 where
  at_end : {s : S} {all : List (List ℕ)} {ran last : Ran} {out more : List ℕ} → AreAnswered line_gives first all ran out s
      → end_gives s last more → IsRun line_gives end_gives first all (both_ran ran last) (out ++ more) s
  stopped : {s t : S} {line : List ℕ} {before : List (List ℕ)} {ran : Ran} {out more : List ℕ} → AreAnswered line_gives first before ran out s
      → line_gives s line Ended more t → (later : List (List ℕ)) → IsRun line_gives end_gives first (before ++ line ∷ later) WithRefusals (out ++ more) t

-- These bytes may be a beginning of what the lines give: what the first of them give, and then the first bytes of what
-- the next gives, or of what the end gives. The state is that which the lines before left; where the next was
-- answered, whether or not any of that was written, that which it left.
pub data IsBegun {S : Type 0} (line_gives : S → List ℕ → Turn → List ℕ → S → Type 0) (end_gives : S → Ran → List ℕ → Type 0) (first : S)
    : List (List ℕ) → List ℕ → S → Type 0 where
  between : {s : S} {before : List (List ℕ)} {ran : Ran} {out : List ℕ} → AreAnswered line_gives first before ran out s
      → (later : List (List ℕ)) → IsBegun line_gives end_gives first (before ++ later) out s
  in_line : {s t : S} {line : List ℕ} {before : List (List ℕ)} {turn : Turn} {ran : Ran} {out more : List ℕ} → AreAnswered line_gives first before ran out s
      → line_gives s line turn more t → (later : List (List ℕ)) (n : ℕ) → IsBegun line_gives end_gives first (before ++ line ∷ later) (out ++ take n more) t
  in_end : {s : S} {all : List (List ℕ)} {ran last : Ran} {out more : List ℕ} → AreAnswered line_gives first all ran out s
      → end_gives s last more → (n : ℕ) → IsBegun line_gives end_gives first all (out ++ take n more) s

-- Where reading stopped: `whole` holds the lines that were read, each with the line feed that ends it or ended by the
-- end of the input, and `part` is what was read of the next. Too many reads are told where the most lines were read,
-- and the input goes on.
pub record StopsAfter (fault : RunFault) (text whole part left : List ℕ) : Type 0 where
  pub is : text ≡ whole ++ part ++ left
  pub ended : (part ++ left ≡ []) ⊎ IsEmptyOrEndsWith whole 10
  pub within : All (λ b. b ≢ 10) part
  pub limit : fault ≡ TooManyReads → (length (lines whole) ≡ most_reads) × (part ≡ []) × (left ≢ [])

-- Where a reader tells its bytes, and a writer what it holds: what was written is an output of the input, which leaves
-- the state `last`.
abbrev pub Outputs : {S : Type 0} → (S → List ℕ → Turn → List ℕ → S → Type 0) → (S → Ran → List ℕ → Type 0)
    → S → Option (List ℕ) → Ran → Option (List ℕ) → Option (List ℕ) → S → Type 0
Outputs line_gives end_gives first text ran old new last = IfSome text (λ t. IfSome old (λ before.
    (out : List ℕ) × IsRun line_gives end_gives first (lines_of t) ran out last × (new ≡ Some (before ++ out))))

-- the same: what was written is a beginning of an output, and the lines that were answered left the state `last`
abbrev pub Begins : {S : Type 0} → (S → List ℕ → Turn → List ℕ → S → Type 0) → (S → Ran → List ℕ → Type 0)
    → S → Option (List ℕ) → Option (List ℕ) → Option (List ℕ) → S → Type 0
Begins line_gives end_gives first text old new last = IfSome text (λ t. IfSome old (λ before.
    (out : List ℕ) × IsBegun line_gives end_gives first (lines_of t) out last × (new ≡ Some (before ++ out))))

-- the same: what was written is what exactly the lines that were read whole give, which left the state `last`
abbrev pub StopsReading : {S : Type 0} → (S → List ℕ → Turn → List ℕ → S → Type 0) → S → RunFault
    → Option (List ℕ) → Option (List ℕ) → Option (List ℕ) → Option (List ℕ) → S → Type 0
StopsReading line_gives first fault text rest old new last = IfSome text (λ t. IfSome old (λ before.
    (whole part left out : List ℕ) × (ran : Ran) × StopsAfter fault t whole part left × (rest ≡ Some left)
    × AreAnswered line_gives first (lines_of whole) ran out last × (new ≡ Some (before ++ out))))

-- at most so many lines were read
abbrev pub ReadsFewLines : Option (List ℕ) → Option (List ℕ) → Type 0
ReadsFewLines old new = (front : List ℕ) × Consumes old new front × (length (lines front) ≤ most_reads)

-- a beginning of what may be given was written, of no bytes or more
abbrev pub gives_front : (List ℕ → Type 0) → Option (List ℕ) → Option (List ℕ) → Type 0
gives_front gives old new = (out : List ℕ) × gives out × (n : ℕ) × Appends old new (take n out)

-- the same, or nothing was written, whether or not anything may be given
abbrev pub gives_beginning : (List ℕ → Type 0) → Option (List ℕ) → Option (List ℕ) → Type 0
gives_beginning gives old new = Keeps old new ⊎ gives_front gives old new
