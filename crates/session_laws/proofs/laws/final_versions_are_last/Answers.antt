use Rattle.session_laws.proofs.Growing as topic
use Rattle.session_laws.proofs.laws.final_versions_are_last.Goals as goal

pub returns : goal.returns
returns c = topic.final_versions_are_last
