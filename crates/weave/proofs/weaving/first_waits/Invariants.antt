use Rattle.std.proofs.Common.{take}
use Rattle.weave.specs.Progress.{AreFirst}
use Rattle.weave.proofs.weaving.first_waits.Given as goal

abbrev pub invariant-loop-row : goal.invariant-loop-row
invariant-loop-row l = AreFirst (take l.row-index l.needs) l.waits.items
