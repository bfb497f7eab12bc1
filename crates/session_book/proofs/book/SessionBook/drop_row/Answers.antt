use Rattle.session_book.proofs.Keyed.{keeps_other_sessions, keeps_other_cdrs}
use Rattle.session_book.proofs.book.SessionBook.drop_row.Goals as goal

pub returns-in-Session-clause-keeps : goal.returns-in-Session-clause-keeps
returns-in-Session-clause-keeps c = rw c.in-Session.is (keeps_other_sessions _ _ c.in-Session.operator c.in-Session.id c.drop_session.ensures.rooms)

pub returns-in-Cdr-clause-keeps : goal.returns-in-Cdr-clause-keeps
returns-in-Cdr-clause-keeps c = rw c.in-Cdr.is (keeps_other_cdrs _ _ c.in-Cdr.operator c.in-Cdr.id _ c.drop_cdr.ensures.rooms)
