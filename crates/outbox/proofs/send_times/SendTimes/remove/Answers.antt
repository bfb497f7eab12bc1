use Rattle.outbox.proofs.Timing.{queue_out}
use Rattle.outbox.proofs.send_times.SendTimes.remove.Goals as goal

pub invariant_of-self : goal.invariant_of-self
invariant_of-self c = rw (c.remove-moment.ensures.shown, c.unqueue.ensures.shown, c.remove-moment.ensures.value) (queue_out _ _ c.self.invariant c.args.number)
