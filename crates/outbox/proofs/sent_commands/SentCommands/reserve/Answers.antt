use Rattle.tables.proofs.Nothing.{ok_not_err}
use Rattle.outbox.proofs.Waiting.{keeps_command}
use Rattle.outbox.proofs.sent_commands.SentCommands.reserve.Goals as goal

pub returns-in_err-reserve-clause-again : goal.returns-in_err-reserve-clause-again
returns-in_err-reserve-clause-again c = rw (← c.self.view_is) (λ had. ok_not_err _ _ c.in_err-reserve.was (c.reserve.ensures.again had.of_command))

pub returns-in_err-reserve-2-clause-keeps : goal.returns-in_err-reserve-2-clause-keeps
returns-in_err-reserve-2-clause-keeps c = rw (← c.self.view_is) (keeps_command _ _ c.reserve.ensures.keeps c.reserve-then-is_unanswered.ensures.keeps)

pub returns-in_err-reserve-2-clause-again : goal.returns-in_err-reserve-2-clause-again
returns-in_err-reserve-2-clause-again c = rw (← c.self.view_is) (λ had. ok_not_err _ _ c.in_err-reserve-2.was (c.reserve-then-is_unanswered.ensures.again (had.of_waiting (c.is_unanswered.ensures.0 c.if-is_unanswered.true))))

pub returns-in_ok-reserve-2-clause-keeps : goal.returns-in_ok-reserve-2-clause-keeps
returns-in_ok-reserve-2-clause-keeps c = rw (← c.self.view_is) (keeps_command _ _ c.reserve.ensures.keeps c.reserve-then-is_unanswered.ensures.keeps)

pub returns-else-is_unanswered-clause-keeps : goal.returns-else-is_unanswered-clause-keeps
returns-else-is_unanswered-clause-keeps c = rw (← c.self.view_is) (keeps_command _ _ c.reserve.ensures.keeps (λ q had. had))
