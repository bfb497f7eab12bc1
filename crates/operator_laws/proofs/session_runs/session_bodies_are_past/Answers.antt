use Rattle.operator_laws.proofs.sessions.Bodies as topic
use Rattle.operator_laws.proofs.session_runs.session_bodies_are_past.Goals as goal

pub returns : goal.returns
returns c = topic.session_bodies_are_past
