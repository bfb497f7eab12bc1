use Rattle.tables.proofs.Nothing.{ok_not_err}
use Rattle.authorization_book.proofs.DueNumbers.{due_sorted, none_due}
use Rattle.authorization_book.proofs.book.AuthorizationBook.due.Goals as goal

pub returns-in_err-push_due-clause-none : goal.returns-in_err-push_due-clause-none
returns-in_err-push_due-clause-none c = rw (← c.self.view_is) (λ none. ok_not_err c.push_due.result _ c.in_err-push_due.was (c.push_due.ensures.none (none_due _ _ c.args.at c.self.invariant.by_deadline none)))

pub returns-clause-list : goal.returns-clause-list
returns-clause-list c =
    rw (← c.self.view_is) (due_sorted _ _ c.args.at c.self.invariant.by_deadline c.new-due.result.items c.push_due.new.due.items c.sort_unstable.new.self.items c.new-due.ensures.items c.in_ok-push_due.ensures.list
    c.sort_unstable.ensures.permutation c.sort_unstable.ensures.sorted)
