use Rattle.tables.proofs.Nothing.{ok_not_err}
use Rattle.reservation_book.proofs.RowLists.{rows_are}
use Rattle.reservation_book.proofs.book.ReservationBook.rows.Goals as goal

pub returns-clause-list : goal.returns-clause-list
returns-clause-list c = rw (c.in_ok-push_rows.ensures.list, c.new-rows.ensures.items) (rows_are _)

pub returns-in_err-push_rows-clause-none : goal.returns-in_err-push_rows-clause-none
returns-in_err-push_rows-clause-none c = λ none. ok_not_err c.push_rows.result _ c.in_err-push_rows.was (c.push_rows.ensures.none none)
