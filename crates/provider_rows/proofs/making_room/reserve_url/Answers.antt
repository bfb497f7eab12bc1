use Rattle.provider_rows.proofs.making_room.reserve_url.Goals as goal

pub returns-clause-again : goal.returns-clause-again
returns-clause-again c = rw (c.place_of-place.ensures, c.response_url.ensures) at c.reserve.ensures.again
