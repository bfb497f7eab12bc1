use Rattle.node_rows.proofs.Telling as laws
use Rattle.node_rows.proofs.laws.serials_are_in_order.Goals as goal

pub returns : goal.returns
returns c = laws.serials_are_in_order
