use Rattle.std.proofs.Common.{refl, subst, sym}
use Rattle.site_book.specs.Sites.{IsNamed, location_of}
use Rattle.operator_tables.proofs.HeldSearch.{HoldsPlace, searched_first, searched_next, fewer_left, is_held, is_place_of, least_held}
use Rattle.operator_tables.proofs.start.find_any_held.Goals as goal

pub loop-next-init : goal.loop-next-init
loop-next-init c =
    let first = rw c.booked.ensures at c.first_for-next.ensures in
    searched_first _ _ (HoldsPlace c.args.books.now.state.rows (location_of c.args.at.now) c.args.token.now c.args.command.now) _ first.some first.none

pub loop-next-smaller : goal.loop-next-smaller
loop-next-smaller c =
    let next = rw (c.booked-in-Some.ensures, c.key-evse_uid.ensures) at c.next_for-next.ensures.some in
    let here = rw c.in-Some.is at c.loop-next.invariant in
    rw c.in-Some.is (fewer_left _ c.in-Some.standing here.0.stands c.args.token.now _ next)

pub loop-next-preserved : goal.loop-next-preserved
loop-next-preserved c =
    let next = rw (c.booked-in-Some.ensures, c.key-evse_uid.ensures) at c.next_for-next.ensures in
    let here = rw c.in-Some.is at c.loop-next.invariant in
    searched_next _ _ (HoldsPlace c.args.books.now.state.rows (location_of c.args.at.now) c.args.token.now c.args.command.now) c.in-Some.standing here
    (λ x same p. c.in_default-place_held.ensures.none p.0 p.1 (is_place_of _ _ _ (location_of c.args.at.now) x p.0 p.1 c.in-Some.standing same p.2)) _ next.some next.none

pub returns-in-Some-place_held-clause-found : goal.returns-in-Some-place_held-clause-found
returns-in-Some-place_held-clause-found c =
    let rows = c.args.books.now.state.rows in
    let l = location_of c.args.at.now in
    let standing = c.in-Some.standing in
    let here = rw c.in-Some.is at c.loop-next.invariant in
    let p = c.in-Some-place_held.ensures.found in
    let named = subst (λ o. IsNamed o standing.reservation.evse_uid) (sym c.requires.named) tt in
    let held = is_held rows c.args.token.now c.args.command.now l standing p.0 p.1 here.0 named p.2 in
    record {
      reservation = standing;
      evse = p.0;
      connector = p.1;
      held = held;
      least = least_held rows c.args.token.now c.args.command.now l standing here p.0 held.here;
      place_is = p.3;
      id_is = refl;
    }
