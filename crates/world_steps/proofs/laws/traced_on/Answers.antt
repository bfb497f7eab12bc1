use Rattle.world_steps.proofs.Tracing as laws
use Rattle.world_steps.proofs.laws.traced_on.Goals as goal

pub returns : goal.returns
returns c = laws.traced_on
