use Rattle.std.proofs.Common.{◌∙◌}
use Rattle.reservation_book.proofs.Orders.{any_none, any_some, any_fails}
use Rattle.reservation_book.proofs.listings.Listings.first_for.Goals as goal

pub returns-in_default-clause-none : goal.returns-in_default-clause-none
returns-in_default-clause-none c =
    any_none c.args.token.now _ _ c.place_for-from.ensures.token (c.place_for-from.ensures.evse ∙ c.least_text.ensures) (c.place_for-from.ensures.id ∙ c.least_text-2.ensures) c.in_default.ensures.none

pub returns-then-is_for-clause-some : goal.returns-then-is_for-clause-some
returns-then-is_for-clause-some c =
    any_some c.args.token.now _ _ c.place_for-from.ensures.token (c.place_for-from.ensures.evse ∙ c.least_text.ensures) (c.place_for-from.ensures.id ∙ c.least_text-2.ensures) _ c.in-Some.ensures.some
    (c.is_for.ensures.yes c.if-is_for.true)

pub returns-else-is_for-clause-none : goal.returns-else-is_for-clause-none
returns-else-is_for-clause-none c =
    any_fails c.args.token.now _ _ c.place_for-from.ensures.token (c.place_for-from.ensures.evse ∙ c.least_text.ensures) (c.place_for-from.ensures.id ∙ c.least_text-2.ensures) _ c.in-Some.ensures.some
    (c.is_for.ensures.no c.if-is_for.false)
