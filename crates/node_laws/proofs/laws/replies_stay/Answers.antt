use Rattle.node_laws.proofs.NodeRuns as runs
use Rattle.node_laws.proofs.laws.replies_stay.Goals as goal

pub returns : goal.returns
returns c = runs.replies_stay
