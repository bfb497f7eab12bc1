use Rattle.outbox.proofs.Held.{count_held}
use Rattle.outbox.proofs.outbox.Outbox.count_to.Goals as goal

pub invariant_of-self : goal.invariant_of-self
invariant_of-self c = count_held _ _ _ _ _ c.self.invariant c.args.last c.raised-self-inside.result (rw (← c.self.view_is) at c.requires) c.raised-self-inside.ensures
