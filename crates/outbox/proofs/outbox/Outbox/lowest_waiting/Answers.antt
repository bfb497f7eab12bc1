use Rattle.std.proofs.Common.{inl, inr, arith}
use Rattle.outbox.proofs.outbox.Outbox.lowest_waiting.Goals as goal

pub returns : goal.returns
returns c = rw (← c.self.view_is) (λ n waits none.
    let above = c.self.invariant.lowest n waits none in
    let one = c.lower.ensures.first in
    let two = c.lower.ensures.second in
    elim waits [
      | inl push ↦ let least = c.lowest_from-push.ensures n push above in omega arith
      | inr o ↦ let least = c.lowest_from-command.ensures n o above in omega arith
    ])
