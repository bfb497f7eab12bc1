use Rattle.std.proofs.Common.{◌∷◌, ◌++◌, map, sym, ap, subst, ◌∙◌}
use Rattle.ocpi_types.specs.declared.rows.Row.TheVariants as row
use Rattle.command_book.specs.Listing.{pending_row}
use Rattle.tables.proofs.Elements.{one_more, none_left, not_none}
use Rattle.tables.proofs.Listings.{none_listed, entries_listed}
use Rattle.tables.specs.Keys.{text_number_total, text_number_exact}
use Rattle.tables.specs.Lookups.{IsListing}
use Rattle.command_book.proofs.listing.push_pending.Goals as goal

pub loop-request-preserved : goal.loop-request-preserved
loop-request-preserved c = (one_more _ _ _ _ _ _ c.in_ok-push.ensures.items (ap (map pending_row) c.in-Some.ensures.steps ∙ ap (λ o. row.Pending c.in-Some.request.now.0 c.in-Some.request.now.1 o ∷ map pending_row c.next.new.self) (sym c.in_ok-open.ensures)) c.loop-request.invariant.0, λ none. not_none _ _ _ c.in-Some.ensures.steps (c.loop-request.invariant.1 none))

pub returns-in_err-open-clause-none : goal.returns-in_err-open-clause-none
returns-in_err-open-clause-none c = λ none. not_none _ _ _ c.in-Some.ensures.steps (c.loop-request.invariant.1 ((cc) ∙ none_listed _ _ (entries_listed text_number_total text_number_exact _) none))

pub returns-in_err-push-clause-none : goal.returns-in_err-push-clause-none
returns-in_err-push-clause-none c = λ none. not_none _ _ _ c.in-Some.ensures.steps (c.loop-request.invariant.1 ((cc) ∙ none_listed _ _ (entries_listed text_number_total text_number_exact _) none))

pub returns-clause-list : goal.returns-clause-list
returns-clause-list c = (c.iter-request-items.result, subst (IsListing _) (sym c.iter-request-items.ensures) (entries_listed text_number_total text_number_exact _), none_left _ _ _ (ap (map pending_row) c.in-None.ensures.steps.0) c.loop-request.invariant.0 ∙ ap (λ l. c.args.rows.now.items ++ map pending_row l) (cc))
