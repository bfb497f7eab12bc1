use Rattle.std.proofs.Common.{◌≡◌, ◌++◌, [], map}
use Rattle.command_book.specs.Listing.{result_row}
use Rattle.command_book.proofs.listing.push_results.Given as goal

abbrev pub invariant-loop-request : goal.invariant-loop-request
invariant-loop-request l =
    (l.rows.items ++ map result_row l.request-iterator ≡ l.initial.rows.items ++ map result_row l.initial.request-iterator) × (l.initial.request-iterator ≡ [] → l.request-iterator ≡ [])
