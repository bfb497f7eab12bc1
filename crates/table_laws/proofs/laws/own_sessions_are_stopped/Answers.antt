use Rattle.table_laws.proofs.SessionMoves as laws
use Rattle.table_laws.proofs.laws.own_sessions_are_stopped.Goals as goal

pub returns : goal.returns
returns c = laws.own_sessions_are_stopped
