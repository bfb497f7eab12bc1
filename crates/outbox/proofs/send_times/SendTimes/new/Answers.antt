use Rattle.outbox.proofs.Timing.{queue_none}
use Rattle.outbox.proofs.send_times.SendTimes.new.Goals as goal

pub invariant_of-result : goal.invariant_of-result
invariant_of-result c = rw (c.new.ensures.shown, c.new-2.ensures.shown) queue_none
