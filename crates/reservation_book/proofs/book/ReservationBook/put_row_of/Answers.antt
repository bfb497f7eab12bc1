use Rattle.reservation_book.proofs.Rooms.{keeps_but_reservation}
use Rattle.reservation_book.proofs.book.ReservationBook.put_row_of.Goals as goal

pub returns-in-Reservation-clause-keeps : goal.returns-in-Reservation-clause-keeps
returns-in-Reservation-clause-keeps c = rw c.in-Reservation.is (keeps_but_reservation _ _ c.in-Reservation.provider c.in-Reservation.reservation_id c.put_reservation.ensures.marks c.put_reservation.ensures.keeps)

pub returns-in-Reservation-clause-gives_back : goal.returns-in-Reservation-clause-gives_back
returns-in-Reservation-clause-gives_back c = rw (c.in-Reservation.is, ← c.deref.ensures) c.put_reservation.ensures.gives_back
