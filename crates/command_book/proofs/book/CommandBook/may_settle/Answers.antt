use Rattle.std.proofs.Common.{sym, ◌∙◌}
use Rattle.tables.proofs.Options.{none_contained}
use Rattle.command_book.proofs.Cases.{not_true}
use Rattle.command_book.proofs.book.CommandBook.may_settle.Goals as goal

pub returns-then-contains-clause-ok : goal.returns-then-contains-clause-ok
returns-then-contains-clause-ok c = (λ e. not_true e, rw (← c.self.view_is) (λ none. none_contained _ (sym c.contains.ensures ∙ c.if-contains.true) none))
