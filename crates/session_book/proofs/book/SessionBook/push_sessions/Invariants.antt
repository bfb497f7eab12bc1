use Rattle.std.proofs.Common.{◌≡◌, ◌++◌, [], map}
use Rattle.session_book.specs.Stored.{session_row}
use Rattle.session_book.proofs.book.SessionBook.push_sessions.Given as goal

abbrev pub invariant-loop-session : goal.invariant-loop-session
invariant-loop-session l =
    (l.rows.items ++ map session_row l.session-iterator ≡ l.initial.rows.items ++ map session_row l.initial.session-iterator)
    × (l.initial.session-iterator ≡ [] → l.session-iterator ≡ [])
