use Rattle.operator_laws.proofs.nodes.NodeSteps as topic
use Rattle.operator_laws.proofs.laws.packets_are_spelled.Goals as goal

pub returns : goal.returns
returns c = topic.packets_are_spelled
