use Rattle.node_laws.proofs.NodeRuns as runs
use Rattle.node_laws.proofs.laws.runs_are_steps.Goals as goal

pub returns : goal.returns
returns c = runs.runs_are_steps
