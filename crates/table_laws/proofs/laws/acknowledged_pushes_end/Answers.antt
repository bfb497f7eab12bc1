use Rattle.table_laws.proofs.EndedPushes as laws
use Rattle.table_laws.proofs.laws.acknowledged_pushes_end.Goals as goal

pub returns : goal.returns
returns c = laws.acknowledged_pushes_end
