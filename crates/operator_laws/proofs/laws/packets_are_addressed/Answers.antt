use Rattle.operator_laws.proofs.nodes.NodeLaws as topic
use Rattle.operator_laws.proofs.laws.packets_are_addressed.Goals as goal

pub returns : goal.returns
returns c = topic.packets_are_addressed
