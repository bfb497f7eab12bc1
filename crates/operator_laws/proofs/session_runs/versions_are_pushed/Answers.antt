use Rattle.operator_laws.proofs.sessions.HandedOver as topic
use Rattle.operator_laws.proofs.session_runs.versions_are_pushed.Goals as goal

pub returns : goal.returns
returns c = topic.versions_are_pushed
