use Rattle.std.proofs.Common.{◌≡◌, ◌++◌, map}
use Rattle.outbox.specs.OutboxListing.{command_row}
use Rattle.outbox.proofs.outbox_rows.push_commands.Given as goal

abbrev pub invariant-loop-number : goal.invariant-loop-number
invariant-loop-number l = l.rows.items ++ map command_row l.number-iterator ≡ l.initial.rows.items ++ map command_row l.initial.number-iterator
