use Rattle.answer_laws.proofs.ProviderSteps as laws
use Rattle.answer_laws.proofs.laws.providers_have_one_step.Goals as goal

pub returns : goal.returns
returns c = laws.providers_have_one_step
