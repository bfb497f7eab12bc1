use Rattle.std.proofs.Common.{subst, refl, arith}
use Rattle.std.proofs.lemmas.Int.{ints}
use Rattle.std.specs.Prelude.{◌<◌, unsigned_abs}
use Rattle.ocpi_text.specs.Decimal.{e4_limit}
use Rattle.handover.specs.Cdrs.{group_of}
use Rattle.handover.proofs.Keeping.{sum_bound, filled, cdr_room_parts}
use Rattle.handover.proofs.cdr_book.CdrBook.fill.Goals as goal

pub put-requires : goal.put-requires
put-requires c = (cdr_room_parts _ c.args.cdr _ _ (group_of c.args.cdr) (rw c.deref-seen.ensures at c.key-operator.ensures) (rw c.deref-seen.ensures at c.key-id.ensures) refl (rw (← c.self.view_is) at c.requires.room)).0

pub put-requires-2 : goal.put-requires-2
put-requires-2 c = rw ((rw c.deref-seen.ensures at c.group_of-group.ensures), (rw c.deref-seen.ensures at c.key-id.ensures)) (rw (← c.self.view_is) at c.requires.room).of_session

pub add_to-requires-clause-room : goal.add_to-requires-clause-room
add_to-requires-clause-room c = rw c.deref-seen.ensures ((cdr_room_parts _ c.args.cdr _ _ (group_of c.args.cdr) (rw c.deref-seen.ensures at c.key-operator.ensures) (rw c.deref-seen.ensures at c.key-id.ensures) refl (rw (← c.self.view_is) at c.requires.room)).2)

pub add_to-requires-clause-bound : goal.add_to-requires-clause-bound
add_to-requires-clause-bound c = sum_bound _ _ _ _ c.self.invariant _ c.room_count-most.result c.room_count-most.ensures.most c.room_count-most.ensures.small

pub invariant_of-self : goal.invariant_of-self
invariant_of-self c =
    let value = (rw c.deref-seen.ensures at c.cost_of-cost.ensures.value) in
    let small = c.cost_of-cost.ensures.bound in
    let none = rw (← c.self.view_is) at c.requires.new in
    let bound = subst (λ z. unsigned_abs z < e4_limit) (rw c.deref-seen.ensures at c.cost_of-cost.ensures.value) c.cost_of-cost.ensures.bound in
    filled _ _ _ _ c.self.invariant c.args.cdr (c.key-operator.result, c.key-id.result) c.group_of-group.result _ _ _ _ _
    none bound (rw (← c.self.view_is) at c.requires.room).of_sum (λ i. ((rw c.deref-seen.ensures at c.key-operator.ensures) i, (rw c.deref-seen.ensures at c.key-id.ensures) i)) (rw c.deref-seen.ensures at c.group_of-group.ensures) (omega (arith, ints))
    c.put.ensures.shown c.put-2.ensures.shown (rw c.deref-seen.ensures at c.add_to.ensures.sums) c.add_to.ensures.rooms

pub returns-clause-cdrs : goal.returns-clause-cdrs
returns-clause-cdrs c = rw (← c.self.view_is, c.put.ensures.shown, (rw c.deref-seen.ensures at c.key-operator.ensures), (rw c.deref-seen.ensures at c.key-id.ensures)) refl
