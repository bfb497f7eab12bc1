use Rattle.std.proofs.Common.{List, ℕ, take}
use Rattle.weave_runs.specs.Outputs.{AreOpeningLines}
use Rattle.weave_runs.specs.Steps.{HasStepsAndSetups, lines_text}
use Rattle.weave_runs.proofs.written.other_text.Given as goal

-- the lines of the turns before this one are written
abbrev pub invariant-loop-turn : goal.invariant-loop-turn
invariant-loop-turn l = (lines : List (List ℕ)) × AreOpeningLines l.transcripts lines × HasStepsAndSetups l.given l.histories l.transcripts (take l.turn-index l.turns) (lines_text lines) l.text.items
