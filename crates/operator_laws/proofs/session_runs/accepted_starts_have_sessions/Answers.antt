use Rattle.operator_laws.proofs.sessions.Accepted as topic
use Rattle.operator_laws.proofs.session_runs.accepted_starts_have_sessions.Goals as goal

pub returns : goal.returns
returns c = topic.accepted_starts_have_sessions
