use Rattle.std.proofs.Common.{◌≡◌, take}
use Rattle.node_steps.proofs.plan.copies.Given as goal

abbrev pub invariant-loop-change : goal.invariant-loop-change
invariant-loop-change l = l.copies.items ≡ take l.change-index l.changes
