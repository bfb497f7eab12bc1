use Rattle.operator_steps.proofs.CreditSteps as planning
use Rattle.operator_steps.proofs.facts.credits_may_follow.Goals as goal

pub returns : goal.returns
returns c = planning.credits
