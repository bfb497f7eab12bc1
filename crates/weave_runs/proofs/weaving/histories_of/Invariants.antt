use Rattle.std.proofs.Common.{take}
use Rattle.weave_runs.specs.Histories.{AreHistories}
use Rattle.weave_runs.proofs.weaving.histories_of.Given as goal

-- the histories of the transcripts before this one are made
abbrev pub invariant-loop-transcript : goal.invariant-loop-transcript
invariant-loop-transcript l = AreHistories l.histories.items (take l.transcript-index l.transcripts)
