use Rattle.session_book.proofs.Keyed.{keyed_session}
use Rattle.session_book.proofs.book.SessionBook.put_session.Goals as goal

pub invariant_of-self : goal.invariant_of-self
invariant_of-self c = rw (c.put.ensures.shown, c.key-id.ensures, c.deref.ensures) (keyed_session _ c.args.session c.self.invariant)
