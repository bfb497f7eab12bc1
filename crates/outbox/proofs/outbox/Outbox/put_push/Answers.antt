use Rattle.outbox.proofs.Held.{put_push_held}
use Rattle.outbox.proofs.outbox.Outbox.put_push.Goals as goal

pub invariant_of-self : goal.invariant_of-self
invariant_of-self c =
    rw (c.put.ensures.pushes, c.clear.ensures.resend)
    (put_push_held _ _ _ _ _ c.self.invariant c.args.number c.lower-self-inside.result c.lower-self-inside.ensures.first c.lower-self-inside.ensures.second (record { to = c.args.to; push = c.args.push }) (rw (← c.self.view_is) at c.requires.may))
