use Rattle.reservation_book.proofs.Orders.{after_none, after_some, after_fails}
use Rattle.reservation_book.proofs.listings.Listings.next_for.Goals as goal

pub returns-in_default-clause-none : goal.returns-in_default-clause-none
returns-in_default-clause-none c = after_none c.args.token.now _ _ (c.args.evse_uid, c.args.id) c.place_for-from.ensures.token c.place_for-from.ensures.evse c.place_for-from.ensures.id c.in_default.ensures.none

pub returns-then-is_for-clause-some : goal.returns-then-is_for-clause-some
returns-then-is_for-clause-some c =
    after_some c.args.token.now _ _ (c.args.evse_uid, c.args.id) c.place_for-from.ensures.token c.place_for-from.ensures.evse c.place_for-from.ensures.id _ c.in-Some.ensures.some (c.is_for.ensures.yes c.if-is_for.true)

pub returns-else-is_for-clause-none : goal.returns-else-is_for-clause-none
returns-else-is_for-clause-none c =
    after_fails c.args.token.now _ _ (c.args.evse_uid, c.args.id) c.place_for-from.ensures.token c.place_for-from.ensures.evse c.place_for-from.ensures.id _ c.in-Some.ensures.some (c.is_for.ensures.no c.if-is_for.false)
