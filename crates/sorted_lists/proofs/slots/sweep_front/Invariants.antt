use Rattle.std.proofs.Common.{◌≡◌, length}
use Rattle.std.specs.List.Sorted.{IsStrictlySortedBy}
use Rattle.std.specs.Map.{keys_of}
use Rattle.sorted_lists.specs.Slots.{seen}
use Rattle.sorted_lists.proofs.slots.sweep_front.Given as goal

abbrev pub invariant-loop-first : goal.invariant-loop-first
invariant-loop-first g l = IsStrictlySortedBy g.K.Ord.cmp (keys_of l.slots.items) × (seen l.slots.items ≡ seen l.initial.slots.items)

abbrev pub decreases-loop-first : goal.decreases-loop-first
decreases-loop-first g l = length l.slots.items
