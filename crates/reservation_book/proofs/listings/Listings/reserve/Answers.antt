use Rattle.reservation_book.proofs.listings.Listings.reserve.Goals as goal

pub returns-clause-again : goal.returns-clause-again
returns-clause-again c = λ h. c.reserve-2.ensures.again (rw c.place_key.ensures h.place)
