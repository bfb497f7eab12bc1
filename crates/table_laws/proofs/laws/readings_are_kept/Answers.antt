use Rattle.table_laws.proofs.SessionMoves as laws
use Rattle.table_laws.proofs.laws.readings_are_kept.Goals as goal

pub returns : goal.returns
returns c = laws.readings_are_kept
