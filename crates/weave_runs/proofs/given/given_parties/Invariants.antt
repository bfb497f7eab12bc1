use Rattle.std.proofs.Common.{take}
use Rattle.weave_runs.specs.Parties.{AreGiven}
use Rattle.weave_runs.proofs.given.given_parties.Given as goal

-- the words before this one name these parties
abbrev pub invariant-loop-word : goal.invariant-loop-word
invariant-loop-word l = AreGiven l.transcripts (take l.word-index l.words) l.parties.items
