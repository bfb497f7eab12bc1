use Rattle.std.proofs.Common.{sym, ap, ◌∙◌, arith, option_copied, Bor}
use Rattle.std.specs.Prelude.{Option}
use Rattle.std.proofs.lemmas.Int.{ints}
use Rattle.ocpi_types.specs.declared.cdrs.Cdr.{Cdr}
use Rattle.tables.specs.Keys.{text_pair_total, text_pair_exact}
use Rattle.tables.proofs.Maps.{remove_absent}
use Rattle.handover.proofs.Keeping.{sum_bound, account_room, cleared}
use Rattle.handover.proofs.cdr_book.CdrBook.clear.Goals as goal

pub returns-in_default-clause-cdrs : goal.returns-in_default-clause-cdrs
returns-in_default-clause-cdrs c = rw (← c.self.view_is) (sym (remove_absent text_pair_total text_pair_exact _ _ (sym c.get.ensures ∙ ap (λ (r : Option (Bor Cdr)). option_copied r) c.in_default.is)))

pub add_to-requires-clause-room : goal.add_to-requires-clause-room
add_to-requires-clause-room c =
    rw c.deref-seen.ensures (account_room _ _ _ _ c.self.invariant (c.args.operator, c.args.id) c.in-Some.cdr.now (sym c.get.ensures ∙ ap (λ (r : Option (Bor Cdr)). option_copied r) c.in-Some.is))

pub add_to-requires-clause-bound : goal.add_to-requires-clause-bound
add_to-requires-clause-bound c = sum_bound _ _ _ _ c.self.invariant _ c.room_count-most.result c.room_count-most.ensures.most c.room_count-most.ensures.small

pub invariant_of-self : goal.invariant_of-self
invariant_of-self c =
    let value = (rw c.deref-seen.ensures at c.cost_of-cost.ensures.value) in
    let bound = c.cost_of-cost.ensures.bound in
    cleared _ _ _ _ c.self.invariant (c.args.operator, c.args.id) c.in-Some.cdr.now _ _ _ _ _ _
    (sym c.get.ensures ∙ ap (λ (r : Option (Bor Cdr)). option_copied r) c.in-Some.is) (rw c.deref-seen.ensures at c.group_of-group.ensures) (omega (arith, ints))
    c.clear.ensures.shown c.clear-2.ensures.shown (rw c.deref-seen.ensures at c.add_to.ensures.sums) c.add_to.ensures.rooms
