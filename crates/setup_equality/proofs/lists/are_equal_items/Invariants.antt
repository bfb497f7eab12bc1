use Rattle.std.proofs.Common.{◌≡◌, take}
use Rattle.setup_equality.proofs.lists.are_equal_items.Given as goal

abbrev pub invariant-loop-i : goal.invariant-loop-i
invariant-loop-i g l = take l.i l.items ≡ take l.i l.others
