use Rattle.std.proofs.Common.{◌≡◌, ◌+◌, ◌≤◌, length}
use Rattle.replays.proofs.cutting.feeds_in.Given as goal
use Rattle.replays.specs.Fronts.{feeds_of}

abbrev pub invariant-loop-first : goal.invariant-loop-first
invariant-loop-first l = (l.count + feeds_of l.rest ≡ feeds_of l.text) × (l.count + length l.rest ≤ length l.text)

abbrev pub decreases-loop-first : goal.decreases-loop-first
decreases-loop-first l = length l.rest
