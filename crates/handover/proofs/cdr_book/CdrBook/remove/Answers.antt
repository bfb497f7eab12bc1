use Rattle.std.proofs.Common.{sym, ap, ◌∙◌, arith}
use Rattle.std.proofs.lemmas.Int.{ints}
use Rattle.ocpi_text.specs.Text.{key}
use Rattle.ocpi_types.specs.Credits.{is_credit}
use Rattle.tables.specs.Keys.{text_pair_total, text_pair_exact}
use Rattle.tables.proofs.Maps.{remove_absent}
use Rattle.handover.specs.Cdrs.{Group}
use Rattle.handover.proofs.Keeping.{Texts, sum_bound, account_room, cleared, lost_record, lost_both, gave_one, gave_both}
use Rattle.handover.proofs.cdr_book.CdrBook.remove.Goals as goal

pub add_to-requires-clause-room : goal.add_to-requires-clause-room
add_to-requires-clause-room c =
    rw c.deref-seen.ensures (account_room _ _ _ _ c.self.invariant (c.args.operator, c.args.id) c.in-Some.cdr (sym c.remove.ensures.value ∙ c.in-Some.is))

pub add_to-requires-clause-bound : goal.add_to-requires-clause-bound
add_to-requires-clause-bound c = sum_bound _ _ _ _ c.self.invariant _ c.room_count-most.result c.room_count-most.ensures.most c.room_count-most.ensures.small

pub invariant_of-self : goal.invariant_of-self
invariant_of-self c =
    rw (c.remove.ensures.shown ∙ remove_absent text_pair_total text_pair_exact _ _ (sym c.remove.ensures.value ∙ c.in_default.is)) c.self.invariant

pub returns-in_default-clause-rooms : goal.returns-in_default-clause-rooms
returns-in_default-clause-rooms c = rw (← c.self.view_is) (λ x had apart. lost_record _ _ (c.args.operator, c.args.id) c.remove.ensures.room x had apart)

pub returns-in_default-clause-back : goal.returns-in_default-clause-back
returns-in_default-clause-back c =
    rw (← c.self.view_is) (gave_one _ _ _ _ _ (c.args.operator, c.args.id) (sym c.remove.ensures.value ∙ c.in_default.is) c.remove.ensures.room)

pub returns-clause-cdrs : goal.returns-clause-cdrs
returns-clause-cdrs c = rw (← c.self.view_is) c.remove.ensures.shown

pub invariant_of-self-2 : goal.invariant_of-self-2
invariant_of-self-2 c =
    let value = (rw c.deref-seen.ensures at c.cost_of-cost.ensures.value) in
    let bound = c.cost_of-cost.ensures.bound in
    cleared _ _ _ _ c.self.invariant (c.args.operator, c.args.id) c.in-Some.cdr _ _ _ _ _ _
    (sym c.remove.ensures.value ∙ c.in-Some.is) (rw c.deref-seen.ensures at c.group_of-group.ensures) (omega (arith, ints))
    c.remove.ensures.shown c.remove-2.ensures.shown (rw c.deref-seen.ensures at c.add_to.ensures.sums) c.add_to.ensures.rooms

pub returns-clause-rooms : goal.returns-clause-rooms
returns-clause-rooms c =
    let had = sym c.remove.ensures.value ∙ c.in-Some.is in
    let operator = ap (λ (k : Texts). k.0) (c.self.invariant.own (c.args.operator, c.args.id) c.in-Some.cdr had) in
    rw (← c.self.view_is, c.add_to.ensures.rooms) (λ x room apart. lost_both _ _ _ (c.args.operator, c.args.id) c.group_of-group.result (ap (λ (g : Group). g.0.0) (rw c.deref-seen.ensures at c.group_of-group.ensures) ∙ sym operator)
    c.remove.ensures.room c.remove-2.ensures.room x room apart)

pub returns-clause-back : goal.returns-clause-back
returns-clause-back c =
    let had = sym c.remove.ensures.value ∙ c.in-Some.is in
    let operator = ap (λ (k : Texts). k.0) (c.self.invariant.own (c.args.operator, c.args.id) c.in-Some.cdr had) in
    rw (← c.self.view_is) (gave_both _ _ _ _ _ _ (c.args.operator, c.args.id) c.group_of-group.result c.in-Some.cdr had ((rw c.deref-seen.ensures at c.group_of-group.ensures) ∙ (λ i. ((sym operator i, key c.in-Some.cdr.session_id), is_credit c.in-Some.cdr)))
    c.remove.ensures.room c.remove-2.ensures.room)
