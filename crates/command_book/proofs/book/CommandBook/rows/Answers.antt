use Rattle.std.proofs.Common.{sym, ap, subst, ◌∙◌, ◌++◌}
use Rattle.command_book.specs.Listing.{AreRowsOf}
use Rattle.command_book.proofs.Cases.{ok_not_err}
use Rattle.command_book.proofs.Listed.{rows_are}
use Rattle.command_book.proofs.book.CommandBook.rows.Goals as goal

pub returns-clause-list : goal.returns-clause-list
returns-clause-list c =
    let list = c.in_ok-push_rows.ensures.list in
    subst (λ l. AreRowsOf l c.args.self.now.rows) (sym (list.2 ∙ ap (λ l. l ++ list.0) c.new-rows.ensures.items)) (rows_are list.0 c.args.self.now.rows list.1)

pub returns-in_err-push_rows-clause-none : goal.returns-in_err-push_rows-clause-none
returns-in_err-push_rows-clause-none c = λ none. ok_not_err c.push_rows.result _ c.in_err-push_rows.was (c.push_rows.ensures.none none)
