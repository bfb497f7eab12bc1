use Rattle.session_book.proofs.Listed.{filled}
use Rattle.session_book.proofs.book.SessionBook.rows.Goals as goal

pub returns-clause-list : goal.returns-clause-list
returns-clause-list c =
    filled _ _ _ _ _ c.consistency.ensures c.new-rows.ensures.items c.in_ok-push_counts.ensures.list c.in_ok-push_sessions.ensures.list c.in_ok-push_cdrs.ensures.list
