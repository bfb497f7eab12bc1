use Rattle.operator_rows.specs.contracts.books.Books.{the_view}
use Rattle.operator_rows.proofs.RowRooms.{keeps_commands, keeps_spent, keeps_booked, keeps_outbox, keeps_tokens, keeps_charged}
use Rattle.operator_rows.proofs.books.Books.reserve_row.Goals as goal

pub returns-in-Spent-clause-keeps : goal.returns-in-Spent-clause-keeps
returns-in-Spent-clause-keeps c = rw (← c.self.view_is) (keeps_spent (the_view c.self.inside).rooms _ c.reserve.ensures.keeps)

pub returns-in-Spent-clause-room : goal.returns-in-Spent-clause-room
returns-in-Spent-clause-room c = rw c.in-Spent.is c.reserve.ensures.ready

pub returns-in-Spent-clause-again : goal.returns-in-Spent-clause-again
returns-in-Spent-clause-again c = rw (c.in-Spent.is, ← c.self.view_is) c.reserve.ensures.again

pub returns-in-Push-clause-keeps : goal.returns-in-Push-clause-keeps
returns-in-Push-clause-keeps c = rw (← c.self.view_is) (keeps_outbox (the_view c.self.inside).rooms c.reserve_row.new.self.rooms c.reserve_row.ensures.keeps)

pub returns-in-Mark-clause-keeps : goal.returns-in-Mark-clause-keeps
returns-in-Mark-clause-keeps c = rw (← c.self.view_is) (keeps_booked (the_view c.self.inside).rooms c.reserve_row-in-Mark.new.self.rooms c.reserve_row-in-Mark.ensures.keeps)

pub returns-in-Reply-clause-keeps : goal.returns-in-Reply-clause-keeps
returns-in-Reply-clause-keeps c = rw (← c.self.view_is) (keeps_commands (the_view c.self.inside).rooms c.reserve_row-in-Reply.new.self.rooms c.reserve_row-in-Reply.ensures.keeps)

pub returns-in-Token-clause-keeps : goal.returns-in-Token-clause-keeps
returns-in-Token-clause-keeps c = rw (← c.self.view_is) (keeps_tokens (the_view c.self.inside).rooms c.reserve_row-in-Token.new.self.rooms c.reserve_row-in-Token.ensures.keeps)

pub returns-in-Session-clause-keeps : goal.returns-in-Session-clause-keeps
returns-in-Session-clause-keeps c = rw (← c.self.view_is) (keeps_charged (the_view c.self.inside).rooms c.reserve_row-in-Session.new.self.rooms c.reserve_row-in-Session.ensures.keeps)
