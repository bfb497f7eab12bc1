use Rattle.command_book.proofs.Roomed.{keeps_room}
use Rattle.command_book.proofs.book.CommandBook.reserve_row.Goals as goal

pub returns-in-Reply-clause-keeps : goal.returns-in-Reply-clause-keeps
returns-in-Reply-clause-keeps c = rw (← c.self.view_is) (keeps_room _ _ (record { replies = λ q passes had. c.reserve.ensures.keeps q had; pending = λ q passes had. had; results = λ q passes had. had; deadlines = λ d q passes had. had }))

pub returns-in-Reply-clause-room : goal.returns-in-Reply-clause-room
returns-in-Reply-clause-room c = rw c.in-Reply.is c.reserve.ensures.ready

pub returns-in-Reply-clause-again : goal.returns-in-Reply-clause-again
returns-in-Reply-clause-again c = rw (c.in-Reply.is, ← c.self.view_is) c.reserve.ensures.again

pub returns-in-Result-clause-keeps : goal.returns-in-Result-clause-keeps
returns-in-Result-clause-keeps c = rw (← c.self-in-Result.view_is) (keeps_room _ _ (record { replies = λ q passes had. had; pending = λ q passes had. had; results = λ q passes had. c.reserve-in-Result.ensures.keeps q had; deadlines = λ d q passes had. had }))

pub returns-in-Result-clause-room : goal.returns-in-Result-clause-room
returns-in-Result-clause-room c = rw c.in-Result.is c.reserve-in-Result.ensures.ready

pub returns-in-Result-clause-again : goal.returns-in-Result-clause-again
returns-in-Result-clause-again c = rw (c.in-Result.is, ← c.self-in-Result.view_is) c.reserve-in-Result.ensures.again
