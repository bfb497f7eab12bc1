use Rattle.reopening_laws.proofs.Nodes as nodes
use Rattle.reopening_laws.proofs.laws.nodes_stay.Goals as goal

pub returns : goal.returns
returns c = nodes.nodes_stay
