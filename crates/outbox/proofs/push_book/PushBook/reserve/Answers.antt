use Rattle.std.proofs.Common.{◌∙◌, sym}
use Rattle.outbox.proofs.PushRoom.{keeps_push_room, subject_room}
use Rattle.tables.proofs.Nothing.{ok_not_err}
use Rattle.outbox.proofs.push_book.PushBook.reserve.Goals as goal

pub returns-in_err-reserve-clause-again : goal.returns-in_err-reserve-clause-again
returns-in_err-reserve-clause-again c = rw (← c.self.view_is) (λ had. ok_not_err _ _ c.in_err-reserve.was (c.reserve.ensures.again had.of_push))

pub returns-in-Some-clause-keeps : goal.returns-in-Some-clause-keeps
returns-in-Some-clause-keeps c = rw (← c.self.view_is) (keeps_push_room _ _ c.reserve.ensures.keeps c.reserve-in-Some.ensures.keeps)

pub returns-in-None-clause-keeps : goal.returns-in-None-clause-keeps
returns-in-None-clause-keeps c = rw (← c.self.view_is) (keeps_push_room _ _ c.reserve.ensures.keeps (λ q had. had))

pub returns-in-Some-clause-again : goal.returns-in-Some-clause-again
returns-in-Some-clause-again c = rw (← c.self.view_is) (λ had. c.reserve-in-Some.ensures.again (subject_room _ _ _ _ (sym c.subject_of.ensures ∙ c.in-Some.is) had.of_subject))
