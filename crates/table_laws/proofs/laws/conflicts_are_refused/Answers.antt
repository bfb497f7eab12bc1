use Rattle.table_laws.proofs.Takings as laws
use Rattle.table_laws.proofs.laws.conflicts_are_refused.Goals as goal

pub returns : goal.returns
returns c = laws.conflicts_are_refused
