use Rattle.std.proofs.Common.{◌≡◌, [], length}
use Rattle.std.specs.Vec.Iter.{into_iter_items, into_iter_len}
use Rattle.reservation_book.specs.Rows.{put_rows}
use Rattle.reservation_book.proofs.book.ReservationBook.add_rows.Given as goal

abbrev pub invariant-loop-row : goal.invariant-loop-row
invariant-loop-row l =
    (put_rows (into_iter_items l.row-iterator) l.self.rows ≡ put_rows (into_iter_items l.initial.row-iterator) l.initial.self.rows)
    × (into_iter_len l.row-iterator ≡ length (into_iter_items l.row-iterator))
    × (into_iter_items l.initial.row-iterator ≡ [] → into_iter_items l.row-iterator ≡ [])
