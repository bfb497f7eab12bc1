use Rattle.std.proofs.Common.{◌≡◌, take}
use Rattle.reservation_book.specs.Calls.{held_without_each}
use Rattle.reservation_book.proofs.book.ReservationBook.end_each.Given as goal

abbrev pub invariant-loop-reservation : goal.invariant-loop-reservation
invariant-loop-reservation l = l.self ≡ held_without_each (take l.reservation-index l.standing) l.initial.self
