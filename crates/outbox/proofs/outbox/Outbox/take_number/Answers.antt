use Rattle.std.proofs.Common.{arith}
use Rattle.outbox.proofs.Held.{are_below}
use Rattle.outbox.proofs.outbox.Outbox.take_number.Goals as goal

pub count_to-requires : goal.count_to-requires
count_to-requires c = let next = rw (← c.self.view_is) at c.in_ok-number.ensures.ok in rw (← c.self.view_is) (are_below _ _ _ _ _ c.self.invariant c.in_ok-number.number (omega arith))
