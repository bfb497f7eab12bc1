use Rattle.reservation_book.proofs.RowLists.{rows_are_all}
use Rattle.reservation_book.proofs.laws.rows_are_all.Goals as goal

pub returns : goal.returns
returns c = rows_are_all
