use Rattle.provider_steps.proofs.PacketSteps as planning
use Rattle.provider_steps.proofs.facts.packets_may_follow.Goals as goal

pub returns : goal.returns
returns c = planning.packets
