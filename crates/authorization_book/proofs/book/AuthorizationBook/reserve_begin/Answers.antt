use Rattle.tables.proofs.Nothing.{ok_not_err}
use Rattle.authorization_book.proofs.Roomed.{all_room, keeps_room}
use Rattle.authorization_book.proofs.book.AuthorizationBook.reserve_begin.Goals as goal

pub returns-in_err-reserve-clause-again : goal.returns-in_err-reserve-clause-again
returns-in_err-reserve-clause-again c = rw (← c.self.view_is) (λ had. ok_not_err _ _ c.in_err-reserve.was (c.reserve.ensures.again (rw c.key.ensures had.of_evse)))

pub returns-in_err-reserve-2-clause-keeps : goal.returns-in_err-reserve-2-clause-keeps
returns-in_err-reserve-2-clause-keeps c = rw (← c.self.view_is) (keeps_room _ _ (λ q had. had) c.reserve.ensures.keeps c.reserve-2.ensures.keeps)

pub returns-in_err-reserve-2-clause-again : goal.returns-in_err-reserve-2-clause-again
returns-in_err-reserve-2-clause-again c = rw (← c.self.view_is) (λ had. ok_not_err _ _ c.in_err-reserve-2.was (c.reserve-2.ensures.again had.of_deadline))

pub returns-clause-keeps : goal.returns-clause-keeps
returns-clause-keeps c = rw (← c.self.view_is) (keeps_room _ _ c.reserve-3.ensures.keeps c.reserve.ensures.keeps c.reserve-2.ensures.keeps)

pub returns-clause-again : goal.returns-clause-again
returns-clause-again c = rw (← c.self.view_is) (λ had. c.reserve-3.ensures.again had.of_number)

pub returns-clause-room : goal.returns-clause-room
returns-clause-room c = all_room c.reserve-3.result _ c.args.number c.args.awaited.now (rw c.key.ensures at c.in_ok-reserve.ensures.ready) c.in_ok-reserve-2.ensures.ready c.reserve-3.ensures.ready
