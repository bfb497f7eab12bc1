use Rattle.node_laws.proofs.NodeRuns as runs
use Rattle.node_laws.proofs.laws.sent_replies_are_kept.Goals as goal

pub returns : goal.returns
returns c = runs.sent_replies_are_kept
