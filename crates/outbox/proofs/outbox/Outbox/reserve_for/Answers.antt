use Rattle.outbox.proofs.RowRoom.{keeps_both}
use Rattle.outbox.proofs.outbox.Outbox.reserve_for.Goals as goal

pub returns-clause-keeps : goal.returns-clause-keeps
returns-clause-keeps c = rw (← c.self.view_is) (keeps_both _ _ (λ n u h. h) c.reserve.ensures.keeps)
