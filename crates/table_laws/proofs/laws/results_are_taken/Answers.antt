use Rattle.table_laws.proofs.Takings as laws
use Rattle.table_laws.proofs.laws.results_are_taken.Goals as goal

pub returns : goal.returns
returns c = laws.results_are_taken
