use Rattle.std.proofs.Common.{◌≡◌, length}
use Rattle.tables.specs.Tables.{shown}
use Rattle.tables.proofs.found.FoundIterator.next.Given as goal

abbrev pub invariant-loop-key : goal.invariant-loop-key
invariant-loop-key g l = shown l.self-inside.slots ≡ shown l.initial.self-inside.slots

abbrev pub decreases-loop-key : goal.decreases-loop-key
decreases-loop-key g l = length l.self-inside.slots
