use Rattle.std.proofs.Common.{◌≡◌, ◌≤◌, length, take}
use Rattle.serde_json.specs.Find.{get_member}
use Rattle.json_text.specs.Trees.{members_view}
use Rattle.json_text.proofs.trees.last_of.Given as goal

abbrev pub invariant-loop-left : goal.invariant-loop-left
invariant-loop-left l = (get_member l.name (members_view l.members.items) ≡ get_member l.name (members_view (take l.left l.members.items))) × (l.left ≤ length l.members.items)

abbrev pub decreases-loop-left : goal.decreases-loop-left
decreases-loop-left l = l.left
