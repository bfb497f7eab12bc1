use Rattle.provider_laws.proofs.held.Cdrs as laws
use Rattle.provider_laws.proofs.laws.acknowledged_cdrs_are_held.Goals as goal

pub returns : goal.returns
returns c = laws.acknowledged_cdrs_are_held
