use Rattle.tables.proofs.Nothing.{ok_not_err}
use Rattle.outbox.proofs.Timing.{keeps_until}
use Rattle.outbox.proofs.send_times.SendTimes.reserve.Goals as goal

pub returns-in_err-reserve-clause-again : goal.returns-in_err-reserve-clause-again
returns-in_err-reserve-clause-again c = rw (← c.self.view_is) (λ had. ok_not_err _ _ c.in_err-reserve.was (c.reserve.ensures.again had.of_number))

pub returns-clause-keeps : goal.returns-clause-keeps
returns-clause-keeps c = rw (← c.self.view_is) (keeps_until _ _ c.reserve.ensures.keeps c.reserve-2.ensures.keeps)

pub returns-clause-again : goal.returns-clause-again
returns-clause-again c = rw (← c.self.view_is) (λ had. c.reserve-2.ensures.again had.of_moment)
