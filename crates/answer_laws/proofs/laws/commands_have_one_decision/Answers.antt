use Rattle.answer_laws.proofs.OperatorDecisions as laws
use Rattle.answer_laws.proofs.laws.commands_have_one_decision.Goals as goal

pub returns : goal.returns
returns c = laws.commands_have_one_decision
