use Rattle.std.proofs.Common.{take}
use Rattle.weave_runs.specs.Parties.{HasFile}
use Rattle.weave_runs.proofs.given.has_file.Given as goal

-- no transcript before this one is of the party
abbrev pub invariant-loop-transcript : goal.invariant-loop-transcript
invariant-loop-transcript l = HasFile (take l.transcript-index l.transcripts) l.party → ⊥
