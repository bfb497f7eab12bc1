use Rattle.provider_laws.proofs.nodes.NodeLaws as laws
use Rattle.provider_laws.proofs.laws.packets_are_addressed.Goals as goal

pub returns : goal.returns
returns c = laws.packets_are_addressed
