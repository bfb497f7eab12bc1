use Rattle.node_rows.proofs.Telling as laws
use Rattle.node_rows.proofs.laws.empty_is_held.Goals as goal

pub returns : goal.returns
returns c = laws.empty_is_held
