use Rattle.operator_laws.proofs.nodes.NodeLaws as topic
use Rattle.operator_laws.proofs.laws.sent_replies_are_kept.Goals as goal

pub returns : goal.returns
returns c = topic.sent_replies_are_kept
