use Rattle.std.proofs.Common.{◌∙◌, arith}
use Rattle.reservation_book.proofs.ExpiryFront.{each_stepped, each_taken}
use Rattle.reservation_book.proofs.book.ReservationBook.end_each.Goals as goal

pub loop-reservation-preserved : goal.loop-reservation-preserved
loop-reservation-preserved c =
    each_stepped c.args.standing.now c.loop-reservation.reservation-index c.reservation-item.result _ _ _ c.loop-reservation-test.true c.reservation-item.is c.loop-reservation.invariant c.end.ensures.rows c.end.ensures.rooms

pub returns : goal.returns
returns c = c.loop-reservation.invariant ∙ each_taken c.args.standing.now c.loop-reservation.reservation-index c.args.self.now (omega (arith, c.loop-reservation-test.false))
