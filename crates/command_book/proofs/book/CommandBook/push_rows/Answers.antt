use Rattle.std.proofs.Common.{◌++◌, ap, map, refl}
use Rattle.command_book.specs.Listing.{reply_row, pending_row, result_row}
use Rattle.command_book.proofs.Listed.{added_up}
use Rattle.command_book.specs.Stored.{Rows}
use Rattle.command_book.proofs.Cases.{ok_not_err}
use Rattle.command_book.proofs.book.CommandBook.push_rows.Goals as goal

pub returns-in_err-push_replies-clause-none : goal.returns-in_err-push_replies-clause-none
returns-in_err-push_replies-clause-none c = rw (← c.self.view_is) (λ none. ok_not_err c.push_replies.result _ c.in_err-push_replies.was (c.push_replies.ensures.none (ap (λ (s : Rows). s.replies) none)))

pub returns-in_err-push_pending-clause-none : goal.returns-in_err-push_pending-clause-none
returns-in_err-push_pending-clause-none c = rw (← c.self.view_is) (λ none. ok_not_err c.push_pending.result _ c.in_err-push_pending.was (c.push_pending.ensures.none (ap (λ (s : Rows). s.pending) none)))

pub returns-in_err-push_results-clause-none : goal.returns-in_err-push_results-clause-none
returns-in_err-push_results-clause-none c = rw (← c.self.view_is) (λ none. ok_not_err c.push_results.result _ c.in_err-push_results.was (c.push_results.ensures.none (ap (λ (s : Rows). s.results) none)))

pub returns-clause-list : goal.returns-clause-list
returns-clause-list c =
    let a = c.in_ok-push_replies.ensures.list in
    let b = c.in_ok-push_pending.ensures.list in
    let d = c.in_ok-push_results.ensures.list in
    rw (← c.self.view_is) (
      map reply_row a.0 ++ map pending_row b.0 ++ map result_row d.0,
      record { replies = a.0; pending = b.0; results = d.0; list_replies = a.1; list_pending = b.1; list_results = d.1; joined = refl },
      added_up _ _ _ _ _ _ _ a.2 b.2 d.2,
    )
