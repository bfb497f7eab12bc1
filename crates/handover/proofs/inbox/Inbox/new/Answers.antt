use Rattle.handover.proofs.Holding.{own_none}
use Rattle.handover.proofs.inbox.Inbox.new.Goals as goal

pub invariant_of-result : goal.invariant_of-result
invariant_of-result c = rw c.new.ensures.shown own_none
