use Rattle.operator_laws.proofs.sessions.Once as topic
use Rattle.operator_laws.proofs.session_runs.references_are_spent_once.Goals as goal

pub returns : goal.returns
returns c = topic.references_are_spent_once
