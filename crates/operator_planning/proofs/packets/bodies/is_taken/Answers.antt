use Rattle.std.proofs.Common.{refl}
use Rattle.operator_planning.proofs.Taken.{taken}
use Rattle.operator_planning.proofs.packets.bodies.is_taken.Goals as goal

pub returns-in-Command : goal.returns-in-Command
returns-in-Command c = (λ _. taken c.args.body.now c.in-Command.is, λ _. refl)
