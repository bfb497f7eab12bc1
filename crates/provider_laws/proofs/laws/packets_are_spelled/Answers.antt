use Rattle.provider_laws.proofs.nodes.Spelled as topic
use Rattle.provider_laws.proofs.laws.packets_are_spelled.Goals as goal

pub returns : goal.returns
returns c = topic.packets_are_spelled
