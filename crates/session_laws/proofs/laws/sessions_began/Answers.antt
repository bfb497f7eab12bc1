use Rattle.session_laws.proofs.Beginning as topic
use Rattle.session_laws.proofs.laws.sessions_began.Goals as goal

pub returns : goal.returns
returns c = topic.sessions_began
