use Rattle.std.proofs.Common.{◌-◌, ◌≡◌, ◌*◌, ◌<◌, true, false, get_or}
use Rattle.site_book.proofs.Trees.{IsLeftmost}
use Rattle.site_book.proofs.flags.find_leaf.Given as goal

abbrev pub invariant-loop-k : goal.invariant-loop-k
invariant-loop-k l = record {
  some : 0 < l.k;
  within : l.k < 2 * l.width;
  is : get_or l.nodes l.k false ≡ true;
  leftmost : IsLeftmost l.width l.nodes l.k;
}

abbrev pub decreases-loop-k : goal.decreases-loop-k
decreases-loop-k l = l.width - l.k
