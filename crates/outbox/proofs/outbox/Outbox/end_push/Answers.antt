use Rattle.outbox.proofs.Held.{end_push_held}
use Rattle.outbox.proofs.RowRoom.{keeps_but_push, gives_push}
use Rattle.outbox.proofs.outbox.Outbox.end_push.Goals as goal

pub invariant_of-self : goal.invariant_of-self
invariant_of-self c =
    rw (c.remove.ensures.resend, c.remove-2.ensures.pushes)
    (end_push_held _ _ _ _ _ c.self.invariant c.args.number (rw (← c.self.view_is) at c.requires))

pub returns-clause-keeps : goal.returns-clause-keeps
returns-clause-keeps c = rw (← c.self.view_is) (keeps_but_push _ _ c.args.number c.remove-2.ensures.rooms (λ n u h. h))

pub returns-clause-gives : goal.returns-clause-gives
returns-clause-gives c = gives_push _ c.args.number c.remove-2.ensures.gives
