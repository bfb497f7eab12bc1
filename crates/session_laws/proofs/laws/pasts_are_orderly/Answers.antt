use Rattle.session_laws.proofs.Growing as topic
use Rattle.session_laws.proofs.laws.pasts_are_orderly.Goals as goal

pub returns : goal.returns
returns c = topic.pasts_are_orderly
