use Rattle.weave_runs.proofs.OutputLemmas.{HasBegun}
use Rattle.weave_runs.proofs.written.push_openings.Given as goal

-- the transcripts before this one are begun
abbrev pub invariant-loop-transcript : goal.invariant-loop-transcript
invariant-loop-transcript l = HasBegun l.transcripts l.transcript-index l.initial.text.items l.text.items
