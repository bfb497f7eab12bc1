use Rattle.operator_laws.proofs.sessions.Going as topic
use Rattle.operator_laws.proofs.session_runs.numbers_never_fall.Goals as goal

pub returns : goal.returns
returns c = topic.numbers_never_fall
