use Rattle.weave.specs.Needs.{AreAllNeeds}
use Rattle.weave.proofs.needs.needs_over.Given as goal

abbrev pub invariant-loop-number : goal.invariant-loop-number
invariant-loop-number l = AreAllNeeds l.given l.histories l.number l.rows.items
