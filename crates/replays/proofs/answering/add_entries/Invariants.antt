use Rattle.std.proofs.Common.{◌≡◌, ◌++◌}
use Rattle.replays.proofs.answering.add_entries.Given as goal

abbrev pub invariant-loop-entry : goal.invariant-loop-entry
invariant-loop-entry l = l.entries.items ++ l.entry-iterator.rest.items ≡ l.initial.entries.items ++ l.fn.later.items
