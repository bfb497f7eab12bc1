use Rattle.std.proofs.Common.{◌≡◌, ◌++◌, map}
use Rattle.handover.specs.Cdrs.{cdr_row}
use Rattle.handover.proofs.cdr_book.CdrBook.push_rows.Given as goal

abbrev pub invariant-loop-cdr : goal.invariant-loop-cdr
invariant-loop-cdr l = l.rows.items ++ map cdr_row l.cdr-iterator ≡ l.initial.rows.items ++ map cdr_row l.initial.cdr-iterator
