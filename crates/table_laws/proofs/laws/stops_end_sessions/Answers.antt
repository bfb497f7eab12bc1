use Rattle.table_laws.proofs.SessionMoves as laws
use Rattle.table_laws.proofs.laws.stops_end_sessions.Goals as goal

pub returns : goal.returns
returns c = laws.stops_end_sessions
