use Rattle.operator_rows.proofs.books.Books.reserve_waits.Goals as goal

pub returns-clause-again : goal.returns-clause-again
returns-clause-again c = rw (← c.self.view_is) c.reserve_all.ensures.again
