use Rattle.std.proofs.Common.{◌-◌, ◌≡◌, ◌≢◌, ◌*◌, ◌/◌, ◌<◌, ℕ, drop, slice_set}
use Rattle.site_book.specs.Flags.{IsJoint}
use Rattle.site_book.proofs.flags.set_node.Given as goal

abbrev pub invariant-loop-k : goal.invariant-loop-k
invariant-loop-k l = record {
  some : 0 < l.k;
  within : l.k < 2 * l.width;
  joint : (j : ℕ) → 0 < j → j < l.width → j ≢ l.k / 2 → IsJoint l.nodes j;
  flags : drop l.width l.nodes ≡ slice_set (drop l.width l.fn.nodes) l.place l.value;
}

abbrev pub decreases-loop-k : goal.decreases-loop-k
decreases-loop-k l = l.k - 1
