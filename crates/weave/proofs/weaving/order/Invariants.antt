use Rattle.std.proofs.Common.{◌-◌, length}
use Rattle.weave.specs.Progress.{IsUnderWay}
use Rattle.weave.specs.Reached.{total}
use Rattle.weave.proofs.weaving.order.Given as goal

abbrev pub invariant-loop-weaving : goal.invariant-loop-weaving
invariant-loop-weaving l = IsUnderWay l.given l.histories l.needs l.weaving

abbrev pub decreases-loop-weaving : goal.decreases-loop-weaving
decreases-loop-weaving l = total l.histories - length l.weaving.turns.items
