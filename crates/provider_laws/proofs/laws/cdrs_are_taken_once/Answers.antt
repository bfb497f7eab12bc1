use Rattle.provider_laws.proofs.held.Settling as laws
use Rattle.provider_laws.proofs.laws.cdrs_are_taken_once.Goals as goal

pub returns : goal.returns
returns c = laws.cdrs_are_taken_once
