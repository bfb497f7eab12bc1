use Rattle.command_book.proofs.Cases.{ok_not_err}
use Rattle.command_book.proofs.Roomed.{keeps_room}
use Rattle.command_book.proofs.book.CommandBook.reserve_open.Goals as goal

pub returns-in_err-reserve-clause-again : goal.returns-in_err-reserve-clause-again
returns-in_err-reserve-clause-again c = rw (← c.self.view_is) (λ h. ok_not_err c.reserve.result _ c.in_err-reserve.was (c.reserve.ensures.again h.1))

pub returns-in_err-reserve-2-clause-keeps : goal.returns-in_err-reserve-2-clause-keeps
returns-in_err-reserve-2-clause-keeps c = rw (← c.self.view_is) (keeps_room _ _ (record { replies = λ q passes had. had; pending = λ q passes had. c.reserve-2.ensures.keeps q had; results = λ q passes had. had; deadlines = λ d q passes had. c.reserve.ensures.keeps (d, q) had }))

pub returns-in_err-reserve-2-clause-again : goal.returns-in_err-reserve-2-clause-again
returns-in_err-reserve-2-clause-again c = rw (← c.self.view_is) (λ h. ok_not_err c.reserve-2.result _ c.in_err-reserve-2.was (c.reserve-2.ensures.again h.0))

pub returns-clause-keeps : goal.returns-clause-keeps
returns-clause-keeps c = rw (← c.self.view_is) (keeps_room _ _ (record { replies = λ q passes had. had; pending = λ q passes had. c.reserve-2.ensures.keeps q had; results = λ q passes had. had; deadlines = λ d q passes had. c.reserve.ensures.keeps (d, q) had }))
