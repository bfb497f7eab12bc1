use Rattle.operator_laws.proofs.nodes.NodeLaws as topic
use Rattle.operator_laws.proofs.laws.requests_agree.Goals as goal

pub returns : goal.returns
returns c = topic.requests_agree
