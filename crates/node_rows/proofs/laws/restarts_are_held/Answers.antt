use Rattle.node_rows.proofs.Restarts as laws
use Rattle.node_rows.proofs.laws.restarts_are_held.Goals as goal

pub returns : goal.returns
returns c = laws.restarts_are_held
