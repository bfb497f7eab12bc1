use Rattle.std.proofs.Common.{sym}
use Rattle.operator_rows.specs.contracts.books.Books.{the_view}
use Rattle.operator_rows.proofs.ClaimIndex.{none_held}
use Rattle.operator_rows.proofs.books.Books.held_by_command.Goals as goal

pub returns-clause-none : goal.returns-clause-none
returns-clause-none c = rw (← c.self.view_is) (none_held (the_view c.self.inside).state.rows c.args.provider c.args.number c.in_ok-opened.field-0.now c.evse_taken.result (sym c.in_ok-opened.ensures) c.evse_taken.ensures.none)
