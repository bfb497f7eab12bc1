use Rattle.authorization_book.proofs.book.AuthorizationBook.consistency.Goals as goal

pub returns : goal.returns
returns c = rw (← c.self.view_is) c.self.invariant.one_each
