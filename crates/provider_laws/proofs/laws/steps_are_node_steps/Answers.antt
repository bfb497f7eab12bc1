use Rattle.provider_laws.proofs.nodes.NodeSteps as laws
use Rattle.provider_laws.proofs.laws.steps_are_node_steps.Goals as goal

pub returns : goal.returns
returns c = laws.steps_are_node_steps
