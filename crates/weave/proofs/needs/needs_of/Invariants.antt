use Rattle.std.proofs.Common.{take}
use Rattle.weave.specs.Needs.{AreNeeds}
use Rattle.weave.proofs.needs.needs_of.Given as goal

abbrev pub invariant-loop-place : goal.invariant-loop-place
invariant-loop-place l = AreNeeds l.given l.histories (take l.place l.entries) l.needs.items
