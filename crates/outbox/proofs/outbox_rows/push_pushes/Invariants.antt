use Rattle.std.proofs.Common.{◌≡◌, ◌++◌, map}
use Rattle.outbox.specs.OutboxListing.{push_row}
use Rattle.outbox.proofs.outbox_rows.push_pushes.Given as goal

abbrev pub invariant-loop-number : goal.invariant-loop-number
invariant-loop-number l = l.rows.items ++ map push_row l.number-iterator ≡ l.initial.rows.items ++ map push_row l.initial.number-iterator
