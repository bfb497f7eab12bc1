use Rattle.std.proofs.Common.{◌≡◌, true, false}
use Rattle.reservation_book.proofs.book.ReservationBook.reserve_reservation.Goals as goal

pub returns-in_err-reserve-clause-again : goal.returns-in_err-reserve-clause-again
returns-in_err-reserve-clause-again c = rw (← c.self.view_is) (λ has. absurd (let f : false ≡ true = c.in_err-reserve.ensures.again has.row in cc))

pub returns-clause-keeps : goal.returns-clause-keeps
returns-clause-keeps c = rw (← c.self.view_is) (λ k r has. record {
  row = c.reserve.ensures.keeps k has.row;
  expiry = c.reserve-2.ensures.keeps.expiring _ has.expiry;
  place = c.reserve-2.ensures.keeps.places _ has.place;
})
