use Rattle.node_rows.proofs.Telling as laws
use Rattle.node_rows.proofs.laws.rows_are_of_one.Goals as goal

pub returns : goal.returns
returns c = laws.rows_are_of_one
