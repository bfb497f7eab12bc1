use Rattle.std.proofs.Common.{List, ℕ, take}
use Rattle.weave_runs.specs.Outputs.{IsSetupLine}
use Rattle.weave_runs.specs.Steps.{HasSteps, ended}
use Rattle.weave_runs.proofs.written.played_text.Given as goal

-- the lines of the turns before this one are written
abbrev pub invariant-loop-turn : goal.invariant-loop-turn
invariant-loop-turn l = (line : List ℕ) × IsSetupLine l.transcripts line × HasSteps l.given l.histories l.transcripts (take l.turn-index l.turns) (ended line) l.text.items
