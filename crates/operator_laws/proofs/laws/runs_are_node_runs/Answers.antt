use Rattle.operator_laws.proofs.nodes.NodeLaws as topic
use Rattle.operator_laws.proofs.laws.runs_are_node_runs.Goals as goal

pub returns : goal.returns
returns c = topic.runs_are_node_runs
