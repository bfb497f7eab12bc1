use Rattle.session_book.proofs.Keyed.{keyed_without_cdr}
use Rattle.session_book.proofs.book.SessionBook.drop_cdr.Goals as goal

pub invariant_of-self : goal.invariant_of-self
invariant_of-self c = rw c.remove.ensures.cdrs (keyed_without_cdr _ _ c.self.invariant)
