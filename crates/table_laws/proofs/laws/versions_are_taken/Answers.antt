use Rattle.table_laws.proofs.Takings as laws
use Rattle.table_laws.proofs.laws.versions_are_taken.Goals as goal

pub returns : goal.returns
returns c = laws.versions_are_taken
