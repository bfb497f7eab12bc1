use Rattle.answer_laws.proofs.OperatorSteps as laws
use Rattle.answer_laws.proofs.laws.operators_have_one_step.Goals as goal

pub returns : goal.returns
returns c = laws.operators_have_one_step
