use Rattle.std.proofs.Common.{subst}
use Rattle.reservation_book.specs.Rows.{Rows, GivesBackReplaced}
use Rattle.reservation_book.proofs.book.ReservationBook.add_row_of.Goals as goal

pub returns-clause-gives_back : goal.returns-clause-gives_back
returns-clause-gives_back c = subst (λ (s : Rows). GivesBackReplaced c.args.row.now s c.put_row_of.new.self.rooms) c.reserve_row.ensures.rows c.put_row_of.ensures.gives_back
