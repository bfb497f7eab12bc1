use Rattle.provider_laws.proofs.commands.Urls as laws
use Rattle.provider_laws.proofs.laws.urls_are_own.Goals as goal

pub returns : goal.returns
returns c = laws.urls_are_own
