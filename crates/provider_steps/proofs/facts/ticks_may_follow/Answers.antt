use Rattle.provider_steps.proofs.TickSteps as planning
use Rattle.provider_steps.proofs.facts.ticks_may_follow.Goals as goal

pub returns : goal.returns
returns c = planning.ticks
