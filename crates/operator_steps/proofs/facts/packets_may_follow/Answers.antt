use Rattle.operator_steps.proofs.PacketSteps as planning
use Rattle.operator_steps.proofs.facts.packets_may_follow.Goals as goal

pub returns : goal.returns
returns c = planning.packets
