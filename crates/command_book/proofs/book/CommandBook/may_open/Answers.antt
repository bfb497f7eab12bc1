use Rattle.std.proofs.Common.{sym, ◌∙◌}
use Rattle.tables.proofs.Options.{none_contained}
use Rattle.command_book.proofs.Cases.{not_true}
use Rattle.command_book.proofs.book.CommandBook.may_open.Goals as goal
use Rattle.command_book.proofs.book.CommandBook.may_open.Goals.{then-contains-via-then-contains, then-contains-via-else-contains+then-contains-2}

pub returns-then-contains-clause-ok : goal.returns-then-contains-clause-ok
returns-then-contains-clause-ok c = (
  λ e. not_true e,
  rw (← c.self.view_is) (λ may. elim c.then-contains.branch [
    | then-contains-via-then-contains w ↦ none_contained _ (sym c.contains.ensures ∙ w.if-contains.true) may.0
    | then-contains-via-else-contains+then-contains-2 w ↦ none_contained _ (sym w.contains-else-contains.ensures ∙ w.if-contains-2.true) may.1
  ]),
)
