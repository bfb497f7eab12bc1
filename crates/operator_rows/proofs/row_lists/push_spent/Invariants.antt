use Rattle.std.proofs.Common.{◌≡◌, ◌++◌, map}
use Rattle.operator_rows.specs.Listing.{spent_row}
use Rattle.operator_rows.proofs.row_lists.push_spent.Given as goal

abbrev pub invariant-loop-key : goal.invariant-loop-key
invariant-loop-key l = l.rows.items ++ map spent_row l.key-iterator ≡ l.initial.rows.items ++ map spent_row l.initial.key-iterator
