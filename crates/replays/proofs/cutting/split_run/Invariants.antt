use Rattle.std.proofs.Common.{◌≡◌, ◌+◌, ◌++◌, take, length}
use Rattle.replays.proofs.cutting.split_run.Given as goal
use Rattle.replays.specs.Cutting.{GoesFurther}

abbrev pub invariant-loop-behind : goal.invariant-loop-behind
invariant-loop-behind l = (l.text ≡ take l.length l.text ++ l.rest) × (l.length + length l.rest ≡ length l.text) × GoesFurther (take l.length l.text) l.rest

abbrev pub decreases-loop-behind : goal.decreases-loop-behind
decreases-loop-behind l = length l.rest
