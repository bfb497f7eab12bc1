use Rattle.std.proofs.Common.{◌++◌, map, ap, ◌∙◌}
use Rattle.command_book.specs.Listing.{result_row}
use Rattle.tables.proofs.Elements.{one_more, none_left, not_none}
use Rattle.tables.proofs.Listings.{none_listed}
use Rattle.command_book.proofs.listing.push_results.Goals as goal

pub loop-request-preserved : goal.loop-request-preserved
loop-request-preserved c = (one_more _ _ _ _ _ _ c.in_ok-push.ensures.items (ap (map result_row) c.in-Some.ensures.steps) c.loop-request.invariant.0, λ none. not_none _ _ _ c.in-Some.ensures.steps (c.loop-request.invariant.1 none))

pub returns-in_err-push-clause-none : goal.returns-in_err-push-clause-none
returns-in_err-push-clause-none c = λ none. not_none _ _ _ c.in-Some.ensures.steps (c.loop-request.invariant.1 ((cc) ∙ none_listed _ _ c.iter-request-items.ensures none))

pub returns-clause-list : goal.returns-clause-list
returns-clause-list c = (c.iter-request-items.result, c.iter-request-items.ensures, none_left _ _ _ (ap (map result_row) c.in-None.ensures.steps.0) c.loop-request.invariant.0 ∙ ap (λ l. c.args.rows.now.items ++ map result_row l) (cc))
