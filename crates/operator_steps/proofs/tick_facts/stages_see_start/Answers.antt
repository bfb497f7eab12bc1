use Rattle.operator_steps.proofs.TickStages as ticks
use Rattle.operator_steps.proofs.tick_facts.stages_see_start.Goals as goal

pub returns : goal.returns
returns c = ticks.stages_see
