use Rattle.provider_laws.proofs.references.Carrying as laws
use Rattle.provider_laws.proofs.laws.references_never_fall.Goals as goal

pub returns : goal.returns
returns c = laws.references_never_fall
