use Rattle.outbox.proofs.Held.{sent_held}
use Rattle.outbox.proofs.outbox.Outbox.sent.Goals as goal

pub invariant_of-self : goal.invariant_of-self
invariant_of-self c =
    rw c.set.ensures.resend
    (sent_held _ _ _ _ _ c.self.invariant c.args.number _ c.first_without-self-inside.result (rw (← c.self.view_is) at (c.waits.ensures.0 c.if-waits.true)) (rw (← c.self.view_is) at c.first_without-self-inside.ensures))
