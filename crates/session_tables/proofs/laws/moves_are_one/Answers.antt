use Rattle.session_tables.proofs.Following.{are_one}
use Rattle.session_tables.proofs.laws.moves_are_one.Goals as goal

pub returns : goal.returns
returns c = are_one
