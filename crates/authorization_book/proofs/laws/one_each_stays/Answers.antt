use Rattle.authorization_book.proofs.Changes as changes
use Rattle.authorization_book.proofs.laws.one_each_stays.Goals as goal

pub returns : goal.returns
returns c = changes.one_each_stays
