use Rattle.node_laws.proofs.NodeRuns as runs
use Rattle.node_laws.proofs.laws.stay_given.Goals as goal

pub returns : goal.returns
returns c = runs.stay_given
