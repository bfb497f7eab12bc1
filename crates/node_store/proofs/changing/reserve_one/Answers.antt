use Rattle.node_store.proofs.changing.reserve_one.Goals as goal

pub returns-in-Some-clause-stay : goal.returns-in-Some-clause-stay
returns-in-Some-clause-stay c = λ x had some. c.reserve_row.ensures.stay x.place (had some)
