use Rattle.stored_laws.proofs.Providers as laws
use Rattle.stored_laws.proofs.laws.providers_are_whole.Goals as goal

pub returns : goal.returns
returns c = laws.providers_are_whole
