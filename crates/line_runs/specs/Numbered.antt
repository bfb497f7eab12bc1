-- What a run writes that tells its machine the number of each line, and may echo the lines.
use Rattle.std.specs.Prelude.{◌≡◌, ℕ, ◌+◌, ◌<◌, Bool, true, false, List, [], ◌∷◌, ◌++◌, Option, Some, IfSome, cond, length, take}
use Rattle.std.specs.Str.Lines.{lines}
use Rattle.std.specs.Io.BufRead.{strip_last}
use Rattle.line_runs.specs.Outcome.{both_ran}
use Rattle.line_runs.specs.Run.{StopsAfter}
use Rattle.line_runs.specs.declared.outcome.Ran.{Ran}
use Rattle.line_runs.specs.declared.outcome.Ran.TheVariants.{Whole, WithRefusals}
use Rattle.line_runs.specs.declared.outcome.RunFault.{RunFault}
use Rattle.line_runs.specs.declared.run.Turn.{Turn}
use Rattle.line_runs.specs.declared.run.Turn.TheVariants.{Taken, Refused, Ended}

-- What is written of a line before it is answered: with an echo the line and a line feed, but nothing of an empty one.
-- A line is a part between line feeds, and a part before a line feed has no carriage return at its end.
abbrev pub echo_of : Bool → List ℕ → List ℕ
echo_of false line = []
echo_of true [] = []
echo_of true (x ∷ xs) = (x ∷ xs) ++ 10 ∷ []

-- what a line gives, by its number, counted from 1
abbrev pub GivesNumbered : Type 0 → Type 1
GivesNumbered S = S → ℕ → List ℕ → Turn → List ℕ → S → Type 0

-- From the state `first` these lines, the empty ones among them, were carried out one after another, and these bytes
-- were written. An empty line changes nothing. Each other is echoed, and answered with its number, at the state that
-- the lines before it left; none ended the run. It is whole where none was refused.
pub data AreNumbered {S : Type 0} (line_gives : GivesNumbered S) (echo : Bool) (first : S) : List (List ℕ) → Ran → List ℕ → S → Type 0 where
  none_numbered : AreNumbered line_gives echo first [] Whole [] first
  empty_line : {s : S} {before : List (List ℕ)} {ran : Ran} {out : List ℕ} → AreNumbered line_gives echo first before ran out s
      → AreNumbered line_gives echo first (before ++ [] ∷ []) ran out s
  taken_line : {s t : S} {line : List ℕ} {before : List (List ℕ)} {ran : Ran} {out more : List ℕ} → AreNumbered line_gives echo first before ran out s
      → 0 < length line → line_gives s (length before + 1) line Taken more t
      → AreNumbered line_gives echo first (before ++ line ∷ []) ran (out ++ (echo_of echo line ++ more)) t
  refused_line : {s t : S} {line : List ℕ} {before : List (List ℕ)} {ran : Ran} {out more : List ℕ} → AreNumbered line_gives echo first before ran out s
      → 0 < length line → line_gives s (length before + 1) line Refused more t
      → AreNumbered line_gives echo first (before ++ line ∷ []) WithRefusals (out ++ (echo_of echo line ++ more)) t

-- The lines of an input may give these bytes and leave this state: all are carried out, and then its end is answered,
-- which changes no state; or those up to a line that ends the run.
pub data IsNumberedRun {S : Type 0} (line_gives : GivesNumbered S) (end_gives : S → Ran → List ℕ → Type 0) (echo : Bool) (first : S)
    : List (List ℕ) → Ran → List ℕ → S → Type 0 where
  numbered_end : {s : S} {all : List (List ℕ)} {ran last : Ran} {out more : List ℕ} → AreNumbered line_gives echo first all ran out s
      → end_gives s last more → IsNumberedRun line_gives end_gives echo first all (both_ran ran last) (out ++ more) s
  numbered_stop : {s t : S} {line : List ℕ} {before : List (List ℕ)} {ran : Ran} {out more : List ℕ} → AreNumbered line_gives echo first before ran out s
      → 0 < length line → line_gives s (length before + 1) line Ended more t → (later : List (List ℕ))
      → IsNumberedRun line_gives end_gives echo first (before ++ line ∷ later) WithRefusals (out ++ (echo_of echo line ++ more)) t

-- These bytes may be a beginning of what the lines give: what the first of them give, and then one of these. A
-- beginning of the echo of the next, whole or cut: then the state is as before that line. Or its echo and the first
-- bytes of its answer: then the state is as after it, whether or not any of the answer was written. Or the first bytes
-- of what the end gives.
pub data IsNumberedBegun {S : Type 0} (line_gives : GivesNumbered S) (end_gives : S → Ran → List ℕ → Type 0) (echo : Bool) (first : S)
    : List (List ℕ) → List ℕ → S → Type 0 where
  begun_between : {s : S} {before : List (List ℕ)} {ran : Ran} {out : List ℕ} → AreNumbered line_gives echo first before ran out s
      → (later : List (List ℕ)) → IsNumberedBegun line_gives end_gives echo first (before ++ later) out s
  begun_echo : {s : S} {before : List (List ℕ)} {ran : Ran} {out : List ℕ} → AreNumbered line_gives echo first before ran out s
      → (line front more : List ℕ) → echo_of echo line ≡ front ++ more → (later : List (List ℕ)) → IsNumberedBegun line_gives end_gives echo first (before ++ line ∷ later) (out ++ front) s
  begun_answer : {s t : S} {line : List ℕ} {before : List (List ℕ)} {turn : Turn} {ran : Ran} {out more : List ℕ} → AreNumbered line_gives echo first before ran out s
      → 0 < length line → line_gives s (length before + 1) line turn more t → (later : List (List ℕ)) (n : ℕ)
      → IsNumberedBegun line_gives end_gives echo first (before ++ line ∷ later) (out ++ (echo_of echo line ++ take n more)) t
  begun_end : {s : S} {all : List (List ℕ)} {ran last : Ran} {out more : List ℕ} → AreNumbered line_gives echo first all ran out s
      → end_gives s last more → (n : ℕ) → IsNumberedBegun line_gives end_gives echo first all (out ++ take n more) s

-- Where a reader tells its bytes, and a writer what it holds: what was written is an output of the input, which leaves
-- the state `last`.
abbrev pub NumberedOutputs : {S : Type 0} → GivesNumbered S → (S → Ran → List ℕ → Type 0) → Bool
    → S → Option (List ℕ) → Ran → Option (List ℕ) → Option (List ℕ) → S → Type 0
NumberedOutputs line_gives end_gives echo first text ran old new last = IfSome text (λ t. IfSome old (λ before.
    (out : List ℕ) × IsNumberedRun line_gives end_gives echo first (lines t) ran out last × (new ≡ Some (before ++ out))))

-- the same: what was written is a beginning of an output, and the lines that were answered left the state `last`
abbrev pub NumberedBegins : {S : Type 0} → GivesNumbered S → (S → Ran → List ℕ → Type 0) → Bool
    → S → Option (List ℕ) → Option (List ℕ) → Option (List ℕ) → S → Type 0
NumberedBegins line_gives end_gives echo first text old new last = IfSome text (λ t. IfSome old (λ before.
    (out : List ℕ) × IsNumberedBegun line_gives end_gives echo first (lines t) out last × (new ≡ Some (before ++ out))))

-- The same: what was written is what exactly the lines that were read whole give, which left the state `last`. With an
-- echo, what was read of the next line follows, but for a carriage return at its end.
abbrev pub NumberedStops : {S : Type 0} → GivesNumbered S → Bool → S → RunFault
    → Option (List ℕ) → Option (List ℕ) → Option (List ℕ) → Option (List ℕ) → S → Type 0
NumberedStops line_gives echo first fault text rest old new last = IfSome text (λ t. IfSome old (λ before.
    (whole part left out : List ℕ) × (ran : Ran) × StopsAfter fault t whole part left × (rest ≡ Some left)
    × AreNumbered line_gives echo first (lines whole) ran out last × (new ≡ Some (before ++ (out ++ cond echo (strip_last 13 part) [])))))
