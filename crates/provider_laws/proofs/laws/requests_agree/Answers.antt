use Rattle.provider_laws.proofs.nodes.NodeLaws as laws
use Rattle.provider_laws.proofs.laws.requests_agree.Goals as goal

pub returns : goal.returns
returns c = laws.requests_agree
