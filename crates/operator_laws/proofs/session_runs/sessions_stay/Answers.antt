use Rattle.operator_laws.proofs.sessions.Going as topic
use Rattle.operator_laws.proofs.session_runs.sessions_stay.Goals as goal

pub returns : goal.returns
returns c = topic.sessions_stay
