use Rattle.std.proofs.Common.{◌-◌, ◌<◌, ◌≤◌}
use Rattle.site_book.specs.Flags.{IsPowerOfTwo}
use Rattle.site_book.proofs.flags.width_of.Given as goal

abbrev pub invariant-loop-width : goal.invariant-loop-width
invariant-loop-width l = (0 < l.width) × (l.width ≤ 2000) × IsPowerOfTwo l.width

abbrev pub decreases-loop-width : goal.decreases-loop-width
decreases-loop-width l = l.count - l.width
