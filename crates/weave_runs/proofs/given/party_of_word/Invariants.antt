use Rattle.std.proofs.Common.{take}
use Rattle.std.specs.Prelude.{Contains}
use Rattle.replays.specs.Transcripts.{Transcript}
use Rattle.replays.specs.declared.transcript.Opening.{Opening}
use Rattle.weave_runs.specs.Parties.{HasNoNode}
use Rattle.weave_runs.proofs.given.party_of_word.Given as goal

-- no run of a transcript before this one has the party
abbrev pub invariant-loop-transcript : goal.invariant-loop-transcript
invariant-loop-transcript l = (t : Transcript) → Contains (take l.transcript-index l.transcripts) t → (x : Opening) → Contains t.openings x → HasNoNode x.setup l.party
