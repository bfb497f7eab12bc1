use Rattle.provider_laws.proofs.nodes.NodeLaws as laws
use Rattle.provider_laws.proofs.laws.numbered.Goals as goal

pub returns : goal.returns
returns c = laws.numbered
