use Rattle.std.proofs.Common.{◌≡◌, sym, ◌∙◌}
use Rattle.reservation_book.specs.Places.{Key, place_of}
use Rattle.reservation_book.proofs.Finding.{stands_at, none_first, found_first, if_none}
use Rattle.reservation_book.proofs.book.ReservationBook.first_for.Goals as goal

pub standing_of-requires : goal.standing_of-requires
standing_of-requires c = rw c.reservation.ensures (stands_at _ _ c.self.invariant.by_place c.in_ok-place.place c.in_ok-place.ensures.some.0)

pub returns-in_err-place-clause-none : goal.returns-in_err-place-clause-none
returns-in_err-place-clause-none c = rw (← c.self.view_is) (if_none c.from_residual.result (none_first _ _ c.self.invariant.by_place c.args.token.now c.args.evse_uid c.in_err-place.ensures.none))

pub returns-clause-some : goal.returns-clause-some
returns-clause-some c =
    let named : ◌≡◌ {A = Key} (place_of c.in_ok-place.place) (c.standing_of.result.provider, c.standing_of.result.id) = sym c.reservation.ensures ∙ (λ i. (sym c.standing_of.ensures.provider i, sym c.standing_of.ensures.id i)) in
    rw (← c.self.view_is) (found_first _ _ c.self.invariant.by_place c.args.token.now c.in_ok-place.place c.standing_of.result named (rw c.reservation.ensures at c.standing_of.ensures.stands) c.in_ok-place.ensures.some.0 c.args.evse_uid c.in_ok-place.ensures.some)
