use Rattle.session_book.proofs.Listed.{listings_are_rows}
use Rattle.session_book.proofs.laws.listings_are_rows.Goals as goal

pub returns : goal.returns
returns c = listings_are_rows
