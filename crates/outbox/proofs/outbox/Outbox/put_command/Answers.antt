use Rattle.outbox.proofs.Held.{put_command_held}
use Rattle.outbox.proofs.RowRoom.{keeps_but_command}
use Rattle.outbox.proofs.outbox.Outbox.put_command.Goals as goal

pub invariant_of-self : goal.invariant_of-self
invariant_of-self c =
    rw (c.put.ensures.commands, c.clear.ensures.resend)
    (put_command_held _ _ _ _ _ c.self.invariant c.args.number c.lower-self-inside.result c.lower-self-inside.ensures.first c.lower-self-inside.ensures.second c.args.command (rw (← c.self.view_is) at c.requires.may))

pub returns-clause-keeps : goal.returns-clause-keeps
returns-clause-keeps c = rw (← c.self.view_is) (keeps_but_command _ _ c.args.number (λ n u h. h) c.put.ensures.keeps)
