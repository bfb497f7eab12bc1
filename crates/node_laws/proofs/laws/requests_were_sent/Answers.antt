use Rattle.node_laws.proofs.NodeRuns as runs
use Rattle.node_laws.proofs.laws.requests_were_sent.Goals as goal

pub returns : goal.returns
returns c = runs.requests_were_sent
