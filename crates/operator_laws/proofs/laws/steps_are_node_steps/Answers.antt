use Rattle.operator_laws.proofs.nodes.NodeSteps as topic
use Rattle.operator_laws.proofs.laws.steps_are_node_steps.Goals as goal

pub returns : goal.returns
returns c = topic.steps_are_node_steps
