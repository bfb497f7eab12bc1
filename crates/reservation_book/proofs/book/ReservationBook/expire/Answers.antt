use Rattle.reservation_book.proofs.ExpiryFront.{all_held_expire}
use Rattle.reservation_book.proofs.Rooms.{keeps_each, gives_each}
use Rattle.reservation_book.proofs.book.ReservationBook.expire.Goals as goal

pub returns-clause-ok : goal.returns-clause-ok
returns-clause-ok c = rw (c.end_each.ensures, c.as_slice.ensures.value) (all_held_expire c.args.at c.in_ok-expired.expired.items c.args.self.now c.in_ok-expired.ensures.list)

pub returns-clause-gives_back : goal.returns-clause-gives_back
returns-clause-gives_back c = rw (c.end_each.ensures, c.as_slice.ensures.value) (gives_each c.in_ok-expired.expired.items c.args.self.now)

pub returns-clause-keeps : goal.returns-clause-keeps
returns-clause-keeps c = rw (c.end_each.ensures, c.as_slice.ensures.value) (keeps_each c.in_ok-expired.expired.items c.args.self.now)
