use Rattle.session_book.proofs.Keyed.{keyed_cdr}
use Rattle.session_book.proofs.book.SessionBook.put_cdr.Goals as goal

pub invariant_of-self : goal.invariant_of-self
invariant_of-self c = rw c.put.ensures.cdrs (keyed_cdr _ c.args.cdr c.self.invariant)
