use Rattle.node_rows.proofs.Restarts as laws
use Rattle.node_rows.proofs.laws.alike_are_classes.Goals as goal

pub returns : goal.returns
returns c = laws.alike_are_classes
