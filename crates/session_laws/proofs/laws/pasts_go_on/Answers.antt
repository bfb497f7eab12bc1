use Rattle.session_laws.proofs.Growing as topic
use Rattle.session_laws.proofs.laws.pasts_go_on.Goals as goal

pub returns : goal.returns
returns c = topic.pasts_go_on
