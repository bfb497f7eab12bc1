use Rattle.reservation_book.proofs.Rooms.{keeps_without, gives_back}
use Rattle.reservation_book.proofs.book.ReservationBook.use_for.Goals as goal

pub returns-clause-gives_back : goal.returns-clause-gives_back
returns-clause-gives_back c = rw c.end.ensures.rooms (gives_back c.args.self.now c.in_ok-standing.standing.provider c.in_ok-standing.standing.id)

pub returns-clause-keeps : goal.returns-clause-keeps
returns-clause-keeps c = rw c.end.ensures.rooms (keeps_without c.args.self.now.rooms c.in_ok-standing.standing.provider c.in_ok-standing.standing.id _)
