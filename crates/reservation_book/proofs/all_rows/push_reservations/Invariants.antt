use Rattle.std.proofs.Common.{◌≡◌, ◌++◌, [], map}
use Rattle.reservation_book.specs.Rows.{reservation_row}
use Rattle.reservation_book.proofs.all_rows.push_reservations.Given as goal

abbrev pub invariant-loop-key : goal.invariant-loop-key
invariant-loop-key l =
    (l.rows.items ++ map reservation_row l.key-iterator ≡ l.initial.rows.items ++ map reservation_row l.initial.key-iterator) × (l.initial.key-iterator ≡ [] → l.key-iterator ≡ [])
