use Rattle.operator_laws.proofs.sessions.Numbers as topic
use Rattle.operator_laws.proofs.session_runs.ids_are_given.Goals as goal

pub returns : goal.returns
returns c = topic.ids_are_given
