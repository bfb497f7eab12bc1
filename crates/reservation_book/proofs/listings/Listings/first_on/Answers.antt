use Rattle.std.proofs.Common.{◌∙◌}
use Rattle.reservation_book.proofs.Orders.{on_none, on_some, on_fails}
use Rattle.reservation_book.proofs.listings.Listings.first_on.Goals as goal

pub returns-in_default-clause-none : goal.returns-in_default-clause-none
returns-in_default-clause-none c =
    on_none c.args.token.now _ _ c.args.evse_uid (record { is_for = c.place_for-from.ensures.token; evse_is = c.place_for-from.ensures.evse }) (c.place_for-from.ensures.id ∙ c.least_text.ensures) c.in_default.ensures.none

pub returns-then-is_on-clause-some : goal.returns-then-is_on-clause-some
returns-then-is_on-clause-some c =
    on_some c.args.token.now _ _ c.args.evse_uid (record { is_for = c.place_for-from.ensures.token; evse_is = c.place_for-from.ensures.evse }) (c.place_for-from.ensures.id ∙ c.least_text.ensures) _ c.in-Some.ensures.some
    (c.is_on.ensures.yes c.if-is_on.true)

pub returns-else-is_on-clause-none : goal.returns-else-is_on-clause-none
returns-else-is_on-clause-none c =
    on_fails c.args.token.now _ _ c.args.evse_uid (record { is_for = c.place_for-from.ensures.token; evse_is = c.place_for-from.ensures.evse }) (c.place_for-from.ensures.id ∙ c.least_text.ensures) _ c.in-Some.ensures.some
    (c.is_on.ensures.no c.if-is_on.false)
