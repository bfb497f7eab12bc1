use Rattle.std.proofs.Common.{ap}
use Rattle.reservation_book.specs.Rows.{Rows}
use Rattle.reservation_book.proofs.Rooms.{keeps_without, gives_back_of}
use Rattle.reservation_book.proofs.book.ReservationBook.cancel.Goals as goal

pub returns-in-Some-clause-gives_back : goal.returns-in-Some-clause-gives_back
returns-in-Some-clause-gives_back c = rw c.end.ensures.rooms (gives_back_of c.args.self.now.rows _ _ c.args.provider c.args.id (ap (λ (s : Rows). s.reservations) c.in_ok-note.ensures.ok.1))

pub returns-in-Some-clause-keeps : goal.returns-in-Some-clause-keeps
returns-in-Some-clause-keeps c = rw c.end.ensures.rooms (λ r apart had. keeps_without _ c.args.provider c.args.id _ r apart (c.note.ensures.keeps r had))

pub returns-in-None-clause-gives_back : goal.returns-in-None-clause-gives_back
returns-in-None-clause-gives_back c = rw c.end.ensures.rooms (gives_back_of c.args.self.now.rows _ _ c.args.provider c.args.id (ap (λ (s : Rows). s.reservations) c.in_ok-note.ensures.ok.1))

pub returns-in-None-clause-keeps : goal.returns-in-None-clause-keeps
returns-in-None-clause-keeps c = rw c.end.ensures.rooms (λ r apart had. keeps_without _ c.args.provider c.args.id _ r apart (c.note.ensures.keeps r had))
