use Rattle.command_book.proofs.RowChanges as changes
use Rattle.command_book.proofs.laws.same_rows.Goals as goal

pub returns : goal.returns
returns c = changes.same_rows
