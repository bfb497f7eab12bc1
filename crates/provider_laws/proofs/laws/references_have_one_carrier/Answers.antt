use Rattle.provider_laws.proofs.references.Carrying as laws
use Rattle.provider_laws.proofs.laws.references_have_one_carrier.Goals as goal

pub returns : goal.returns
returns c = laws.references_have_one_carrier
