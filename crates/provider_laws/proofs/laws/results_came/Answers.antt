use Rattle.provider_laws.proofs.commands.Standing as laws
use Rattle.provider_laws.proofs.laws.results_came.Goals as goal

pub returns : goal.returns
returns c = laws.results_came
