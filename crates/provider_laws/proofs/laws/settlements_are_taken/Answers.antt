use Rattle.provider_laws.proofs.held.Settling as laws
use Rattle.provider_laws.proofs.laws.settlements_are_taken.Goals as goal

pub returns : goal.returns
returns c = laws.settlements_are_taken
