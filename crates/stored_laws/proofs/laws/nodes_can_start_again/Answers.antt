use Rattle.stored_laws.proofs.Starting.{nodes_can_start_again}
use Rattle.stored_laws.proofs.laws.nodes_can_start_again.Goals as goal

pub returns : goal.returns
returns c = nodes_can_start_again
