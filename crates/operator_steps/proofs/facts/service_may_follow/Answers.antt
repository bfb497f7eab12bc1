use Rattle.operator_steps.proofs.ServiceSteps as planning
use Rattle.operator_steps.proofs.facts.service_may_follow.Goals as goal

pub returns : goal.returns
returns c = planning.services
