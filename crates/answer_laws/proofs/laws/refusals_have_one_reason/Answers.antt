use Rattle.answer_laws.proofs.OperatorReasons as laws
use Rattle.answer_laws.proofs.laws.refusals_have_one_reason.Goals as goal

pub returns : goal.returns
returns c = laws.refusals_have_one_reason
