use Rattle.node_rows.proofs.Steps as laws
use Rattle.node_rows.proofs.laws.changes_are_held.Goals as goal

pub returns : goal.returns
returns c = laws.changes_are_held
