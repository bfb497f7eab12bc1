use Rattle.session_tables.proofs.Following.{may_follow}
use Rattle.session_tables.proofs.laws.moves_may_follow.Goals as goal

pub returns : goal.returns
returns c = may_follow
