use Rattle.session_book.proofs.OwnIds.{ids_differ}
use Rattle.session_book.proofs.laws.ids_differ.Goals as goal

pub returns : goal.returns
returns c = ids_differ
