use Rattle.operator_laws.proofs.nodes.NodeLaws as topic
use Rattle.operator_laws.proofs.laws.pushes_stand.Goals as goal

pub returns : goal.returns
returns c = topic.pushes_stand
