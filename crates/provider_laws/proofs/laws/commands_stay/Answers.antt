use Rattle.provider_laws.proofs.commands.Standing as laws
use Rattle.provider_laws.proofs.laws.commands_stay.Goals as goal

pub returns : goal.returns
returns c = laws.commands_stay
