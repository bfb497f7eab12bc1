use Rattle.std.proofs.Common.{◌++◌, ap, ◌∙◌}
use Rattle.tables.proofs.Nothing.{ok_not_err}
use Rattle.reservation_book.specs.Rows.{rows_of}
use Rattle.reservation_book.proofs.RowLists.{put_rows_of, none_listed}
use Rattle.reservation_book.proofs.book.ReservationBook.copy.Goals as goal

pub returns-clause-rows : goal.returns-clause-rows
returns-clause-rows c = c.in_ok-add_rows.ensures.list ∙ (rw (c.in_ok-push_rows.ensures.list, c.new-rows.ensures.items, c.new-copy.ensures) (put_rows_of _))

pub returns-in_err-push_rows-clause-none : goal.returns-in_err-push_rows-clause-none
returns-in_err-push_rows-clause-none c = λ none. ok_not_err c.push_rows.result _ c.in_err-push_rows.was (c.push_rows.ensures.none none)

pub returns-in_err-add_rows-clause-none : goal.returns-in_err-add_rows-clause-none
returns-in_err-add_rows-clause-none c = λ none. ok_not_err c.add_rows.result _ c.in_err-add_rows.was
    (c.add_rows.ensures.none (c.in_ok-push_rows.ensures.list ∙ ap (λ l. l ++ rows_of c.args.self.now.rows) c.new-rows.ensures.items ∙ none_listed _ none))
