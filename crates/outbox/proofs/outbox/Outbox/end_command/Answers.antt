use Rattle.outbox.proofs.Held.{end_command_held}
use Rattle.outbox.proofs.RowRoom.{keeps_but_command, gives_command}
use Rattle.outbox.proofs.outbox.Outbox.end_command.Goals as goal

pub invariant_of-self : goal.invariant_of-self
invariant_of-self c =
    rw (c.remove.ensures.resend, c.remove-2.ensures.commands)
    (end_command_held _ _ _ _ _ c.self.invariant c.args.number (rw (← c.self.view_is) at c.requires))

pub returns-clause-keeps : goal.returns-clause-keeps
returns-clause-keeps c = rw (← c.self.view_is) (keeps_but_command _ _ c.args.number (λ n u h. h) c.remove-2.ensures.keeps)

pub returns-clause-gives : goal.returns-clause-gives
returns-clause-gives c = gives_command _ c.args.number c.remove-2.ensures.gives
