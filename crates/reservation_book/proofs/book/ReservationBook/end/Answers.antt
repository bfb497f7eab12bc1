use Rattle.std.proofs.Common.{refl, sym, ◌∙◌}
use Rattle.reservation_book.proofs.Relisting.{taken_out, none_taken_out}
use Rattle.reservation_book.proofs.Rooms.{without_some}
use Rattle.tables.proofs.Options.{none_else}
use Rattle.reservation_book.proofs.book.ReservationBook.end.Goals as goal

pub invariant_of-self : goal.invariant_of-self
invariant_of-self c = rw c.remove-ended.ensures.shown
    (taken_out _ _ _ c.args.key.now c.in-Some.reservation c.self.invariant (sym c.remove-ended.ensures.value ∙ c.in-Some.is) c.remove.ensures.expiring c.remove.ensures.places)

pub invariant_of-self-in_default : goal.invariant_of-self-in_default
invariant_of-self-in_default c = rw c.remove-ended.ensures.shown (none_taken_out _ _ c.args.key.now c.self.invariant (sym c.remove-ended.ensures.value ∙ none_else _ c.in_default.not-Some))

pub returns-in-Some-clause-rooms : goal.returns-in-Some-clause-rooms
returns-in-Some-clause-rooms c = rw (← c.self.view_is)
    (without_some _ _ c.args.key.now _ c.in-Some.reservation (sym c.remove-ended.ensures.value ∙ c.in-Some.is) c.remove-ended.ensures.room refl c.remove.ensures.expiring_room c.remove.ensures.places_room)
