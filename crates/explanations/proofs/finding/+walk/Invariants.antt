use Rattle.std.proofs.Common.{ℕ, ◌+◌, ◌*◌}
use Rattle.explanations.proofs.finding.+walk.Given as goal

abbrev pub decreases-walk : goal.decreases-walk
decreases-walk l = 4 * l.steps

abbrev pub decreases-walk_member : goal.decreases-walk_member
decreases-walk_member l = 4 * l.steps + 3

abbrev pub decreases-walk_items : goal.decreases-walk_items
decreases-walk_items l = 4 * l.steps + 2

abbrev pub decreases-walk_inside : goal.decreases-walk_inside
decreases-walk_inside l = 4 * l.steps + 1
