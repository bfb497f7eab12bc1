use Rattle.handover.proofs.Holding.{own_put}
use Rattle.handover.proofs.inbox.Inbox.put_session.Goals as goal

pub invariant_of-self : goal.invariant_of-self
invariant_of-self c = rw c.put.ensures.shown (own_put _ c.self.invariant _ c.args.session (λ i. ((rw c.deref-seen.ensures at c.key.ensures) i, (rw c.deref-seen.ensures at c.key-2.ensures) i)))
