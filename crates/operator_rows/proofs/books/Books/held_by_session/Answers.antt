use Rattle.std.proofs.Common.{sym}
use Rattle.operator_rows.specs.contracts.books.Books.{the_view}
use Rattle.operator_rows.proofs.LiveClaims.{live_held, none_live_held}
use Rattle.operator_rows.proofs.books.Books.held_by_session.Goals as goal

pub returns-clause-taken : goal.returns-clause-taken
returns-clause-taken c = rw (← c.self.view_is) (live_held (the_view c.self.inside).state.rows c.args.id c.in_ok-session.field-0.now c.evse_occupied.result (sym c.in_ok-session.ensures) c.evse_occupied.ensures.occupied)

pub returns-clause-none : goal.returns-clause-none
returns-clause-none c = rw (← c.self.view_is) (none_live_held (the_view c.self.inside).state.rows c.args.id c.in_ok-session.field-0.now c.evse_occupied.result (sym c.in_ok-session.ensures) c.evse_occupied.ensures.none)
