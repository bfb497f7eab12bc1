use Rattle.reservation_book.proofs.Relisting.{none_listed}
use Rattle.reservation_book.proofs.book.ReservationBook.new.Goals as goal

pub invariant_of-result : goal.invariant_of-result
invariant_of-result c = rw c.new.ensures.shown (none_listed c.new-3.result c.new-3.ensures.expiring c.new-3.ensures.places)
