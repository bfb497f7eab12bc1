use Rattle.provider_steps.proofs.OrderSteps as planning
use Rattle.provider_steps.proofs.facts.orders_may_follow.Goals as goal

pub returns : goal.returns
returns c = planning.orders
