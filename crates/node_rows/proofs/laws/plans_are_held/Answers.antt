use Rattle.node_rows.proofs.Steps as laws
use Rattle.node_rows.proofs.laws.plans_are_held.Goals as goal

pub returns : goal.returns
returns c = laws.plans_are_held
