use Rattle.std.proofs.Common.{◌∙◌}
use Rattle.reservation_book.proofs.book.ReservationBook.put_reservation.Goals as goal

pub returns-clause-gives_back : goal.returns-clause-gives_back
returns-clause-gives_back c = rw (← c.self.view_is) (λ w stood.
    let given = c.replace.ensures.gives_back w (c.copied-replaced.ensures ∙ c.get.ensures ∙ stood) in
    record { expiry = given.expiry; place = given.place })
