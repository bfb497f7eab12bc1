use Rattle.authorization_book.proofs.Changes as changes
use Rattle.authorization_book.proofs.laws.waits_change.Goals as goal

pub returns : goal.returns
returns c = changes.waits_change
