use Rattle.std.proofs.Common.{take}
use Rattle.std.specs.Prelude.{Contains}
use Rattle.replays.specs.Transcripts.{Transcript}
use Rattle.weave_runs.proofs.OutputLemmas.{IsAlike}
use Rattle.weave_runs.proofs.weaving.is_of_one_world.Given as goal

-- the transcripts before this one are alike
abbrev pub invariant-loop-transcript : goal.invariant-loop-transcript
invariant-loop-transcript l = (t : Transcript) → Contains (take l.transcript-index l.transcripts) t → IsAlike l.first.setup t
