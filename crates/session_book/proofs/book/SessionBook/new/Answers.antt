use Rattle.session_book.proofs.Keyed.{keyed_empty}
use Rattle.session_book.proofs.book.SessionBook.new.Goals as goal

pub invariant_of-result : goal.invariant_of-result
invariant_of-result c = rw (c.new.ensures.shown, c.new-2.ensures.cdrs) (keyed_empty _ _)
