use Rattle.provider_laws.proofs.held.Settling as laws
use Rattle.provider_laws.proofs.laws.taken_cdrs_are_held.Goals as goal

pub returns : goal.returns
returns c = laws.taken_cdrs_are_held
