use Rattle.std.proofs.Common.{◌∷◌, ◌++◌, map, sym, ap, ◌∙◌}
use Rattle.ocpi_types.specs.declared.rows.Row.TheVariants as row
use Rattle.command_book.specs.Listing.{reply_row}
use Rattle.tables.proofs.Elements.{one_more, none_left, not_none}
use Rattle.tables.proofs.Listings.{none_listed}
use Rattle.command_book.proofs.listing.push_replies.Goals as goal

pub loop-request-preserved : goal.loop-request-preserved
loop-request-preserved c = (one_more _ _ _ _ _ _ c.in_ok-push.ensures.items (ap (map reply_row) c.in-Some.ensures.steps ∙ ap (λ r. row.Reply c.in-Some.request.now.0 c.in-Some.request.now.1 r ∷ map reply_row c.next.new.self) (sym c.in_ok-copy.ensures.equal)) c.loop-request.invariant.0, λ none. not_none _ _ _ c.in-Some.ensures.steps (c.loop-request.invariant.1 none))

pub returns-in_err-copy-clause-none : goal.returns-in_err-copy-clause-none
returns-in_err-copy-clause-none c = λ none. not_none _ _ _ c.in-Some.ensures.steps (c.loop-request.invariant.1 ((cc) ∙ none_listed _ _ c.iter-request-items.ensures none))

pub returns-in_err-push-clause-none : goal.returns-in_err-push-clause-none
returns-in_err-push-clause-none c = λ none. not_none _ _ _ c.in-Some.ensures.steps (c.loop-request.invariant.1 ((cc) ∙ none_listed _ _ c.iter-request-items.ensures none))

pub returns-clause-list : goal.returns-clause-list
returns-clause-list c = (c.iter-request-items.result, c.iter-request-items.ensures, none_left _ _ _ (ap (map reply_row) c.in-None.ensures.steps.0) c.loop-request.invariant.0 ∙ ap (λ l. c.args.rows.now.items ++ map reply_row l) (cc))
