use Rattle.provider_laws.proofs.held.Cdrs as laws
use Rattle.provider_laws.proofs.laws.held_cdrs_stay.Goals as goal

pub returns : goal.returns
returns c = laws.held_cdrs_stay
