use Rattle.handover.proofs.Holding.{keeps_sessions}
use Rattle.handover.proofs.inbox.Inbox.reserve_session.Goals as goal

pub returns-clause-keeps : goal.returns-clause-keeps
returns-clause-keeps c = rw (← c.self.view_is) (keeps_sessions _ _ _ c.reserve.ensures.keeps)

pub returns-clause-again : goal.returns-clause-again
returns-clause-again c = rw (← c.self.view_is) (λ had. c.reserve.ensures.again (rw (c.key.ensures, c.key-2.ensures) had))
