use Rattle.std.proofs.Common.{◌≡◌, length}
use Rattle.std.specs.VecDeque.Iter.{deque_iter_rest}
use Rattle.tables.specs.Tables.{shown}
use Rattle.sorted_lists.specs.Slots.{seen}
use Rattle.sorted_lists.proofs.visits.VisitsIterator.next.Given as goal

abbrev pub invariant-loop-slot : goal.invariant-loop-slot
invariant-loop-slot g l = shown (seen (deque_iter_rest l.self-inside.slots)) ≡ shown (seen (deque_iter_rest l.initial.self-inside.slots))

abbrev pub decreases-loop-slot : goal.decreases-loop-slot
decreases-loop-slot g l = length (deque_iter_rest l.self-inside.slots)
