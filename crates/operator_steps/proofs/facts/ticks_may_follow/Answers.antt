use Rattle.operator_steps.proofs.TickSteps as ticks
use Rattle.operator_steps.proofs.facts.ticks_may_follow.Goals as goal

pub returns : goal.returns
returns c = ticks.ticks
