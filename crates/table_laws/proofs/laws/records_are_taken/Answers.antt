use Rattle.table_laws.proofs.Takings as laws
use Rattle.table_laws.proofs.laws.records_are_taken.Goals as goal

pub returns : goal.returns
returns c = laws.records_are_taken
