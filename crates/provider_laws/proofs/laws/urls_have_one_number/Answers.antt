use Rattle.provider_laws.proofs.commands.Urls as laws
use Rattle.provider_laws.proofs.laws.urls_have_one_number.Goals as goal

pub returns : goal.returns
returns c = laws.urls_have_one_number
