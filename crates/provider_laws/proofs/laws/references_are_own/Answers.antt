use Rattle.provider_laws.proofs.references.Carrying as laws
use Rattle.provider_laws.proofs.laws.references_are_own.Goals as goal

pub returns : goal.returns
returns c = laws.references_are_own
