use Rattle.node_laws.proofs.NodeRuns as runs
use Rattle.node_laws.proofs.laws.numbered.Goals as goal

pub returns : goal.returns
returns c = runs.numbered
