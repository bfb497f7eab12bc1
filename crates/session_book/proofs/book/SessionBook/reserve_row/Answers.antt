use Rattle.session_book.proofs.Keyed.{has_taken_room}
use Rattle.session_book.proofs.book.SessionBook.reserve_row.Goals as goal

pub returns-in-Cdr-clause-room : goal.returns-in-Cdr-clause-room
returns-in-Cdr-clause-room c = rw c.in-Cdr.is (has_taken_room _ c.in-Cdr.cdr _ _ (rw c.deref-in-Cdr.ensures at c.reserve_cdr.ensures.rooms))
