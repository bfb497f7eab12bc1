use Rattle.provider_laws.proofs.nodes.NodeLaws as laws
use Rattle.provider_laws.proofs.laws.runs_are_node_runs.Goals as goal

pub returns : goal.returns
returns c = laws.runs_are_node_runs
