use Rattle.node_laws.proofs.NodeRuns as runs
use Rattle.node_laws.proofs.laws.requests_agree.Goals as goal

pub returns : goal.returns
returns c = runs.requests_agree
