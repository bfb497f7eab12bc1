use Rattle.node_rows.proofs.Telling as laws
use Rattle.node_rows.proofs.laws.held_rows_start_again.Goals as goal

pub returns : goal.returns
returns c = laws.held_rows_start_again
