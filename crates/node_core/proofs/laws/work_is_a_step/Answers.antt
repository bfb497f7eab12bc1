use Rattle.node_core.proofs.Doing.{does, may_do}
use Rattle.node_core.proofs.laws.work_is_a_step.Goals as goal

pub returns : goal.returns
returns c = λ n i x h. (may_do n i x h, does n i x h)
