use Rattle.std.proofs.Common.{◌≡◌, ◌+◌, ◌++◌, length}
use Rattle.replays.proofs.cutting.behind_feeds.Given as goal
use Rattle.replays.specs.Cutting.{feeds}

abbrev pub invariant-loop-first : goal.invariant-loop-first
invariant-loop-first l = (l.text ≡ feeds l.count ++ l.rest) × (l.count + length l.rest ≡ length l.text)

abbrev pub decreases-loop-first : goal.decreases-loop-first
decreases-loop-first l = length l.rest
