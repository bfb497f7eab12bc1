use Rattle.std.proofs.Common.{◌≡◌, ◌++◌, [], map}
use Rattle.session_book.specs.Stored.{cdr_row}
use Rattle.session_book.proofs.book.SessionBook.push_cdrs.Given as goal

abbrev pub invariant-loop-cdr : goal.invariant-loop-cdr
invariant-loop-cdr l =
    (l.rows.items ++ map cdr_row l.cdr-iterator ≡ l.initial.rows.items ++ map cdr_row l.initial.cdr-iterator)
    × (l.initial.cdr-iterator ≡ [] → l.cdr-iterator ≡ [])
