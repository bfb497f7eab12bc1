use Rattle.operator_laws.proofs.nodes.NodeLaws as topic
use Rattle.operator_laws.proofs.laws.pushes_were_sent.Goals as goal

pub returns : goal.returns
returns c = topic.pushes_were_sent
