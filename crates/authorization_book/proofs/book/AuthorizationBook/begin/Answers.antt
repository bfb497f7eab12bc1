use Rattle.authorization_book.proofs.Indexing.{begun}
use Rattle.authorization_book.proofs.book.AuthorizationBook.begin.Goals as goal

pub invariant_of-self : goal.invariant_of-self
invariant_of-self c =
    rw (c.put.ensures.shown, c.put-2.ensures.shown, c.put-3.ensures.shown, c.key.ensures)
    (begun _ _ _ c.self.invariant c.args.number c.args.awaited.now (rw (← c.self.view_is) at c.requires.may))
