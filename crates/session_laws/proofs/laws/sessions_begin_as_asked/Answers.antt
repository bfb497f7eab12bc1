use Rattle.session_laws.proofs.Beginning as topic
use Rattle.session_laws.proofs.laws.sessions_begin_as_asked.Goals as goal

pub returns : goal.returns
returns c = topic.sessions_begin_as_asked
