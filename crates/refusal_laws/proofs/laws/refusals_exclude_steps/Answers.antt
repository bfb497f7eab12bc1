use Rattle.refusal_laws.proofs.Refusing as laws
use Rattle.refusal_laws.proofs.laws.refusals_exclude_steps.Goals as goal

pub returns : goal.returns
returns c = laws.refusals_exclude_steps
