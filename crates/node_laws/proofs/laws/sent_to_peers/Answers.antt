use Rattle.node_laws.proofs.NodeRuns as runs
use Rattle.node_laws.proofs.laws.sent_to_peers.Goals as goal

pub returns : goal.returns
returns c = runs.sent_to_peers
