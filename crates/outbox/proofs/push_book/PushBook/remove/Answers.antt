use Rattle.std.proofs.Common.{◌∙◌, sym}
use Rattle.outbox.proofs.Indexing.{clear_some, clear_none, clear_absent}
use Rattle.outbox.proofs.PushRoom.{lost_push, lost_with_subject, no_push_room}
use Rattle.outbox.proofs.push_book.PushBook.remove.Goals as goal

pub invariant_of-self : goal.invariant_of-self
invariant_of-self c = rw c.remove.ensures.shown (clear_absent _ _ c.self.invariant c.args.number (sym c.remove.ensures.value ∙ c.in_default.is))

pub returns-in_default-clause-rooms : goal.returns-in_default-clause-rooms
returns-in_default-clause-rooms c = rw (← c.self.view_is) (lost_push _ _ c.args.number c.remove.ensures.room)

pub invariant_of-self-in-Some-subject_of : goal.invariant_of-self-in-Some-subject_of
invariant_of-self-in-Some-subject_of c =
    rw (c.remove.ensures.shown, c.remove-in-Some-subject_of.ensures.shown)
    (clear_some _ _ c.self.invariant c.args.number c.in-Some.outgoing c.in-Some-subject_of.subject (sym c.remove.ensures.value ∙ c.in-Some.is) (sym c.subject_of.ensures ∙ c.in-Some-subject_of.is))

pub returns-in-Some-subject_of-clause-rooms : goal.returns-in-Some-subject_of-clause-rooms
returns-in-Some-subject_of-clause-rooms c = rw (← c.self.view_is) (lost_with_subject _ _ _ c.args.number c.in-Some-subject_of.subject c.remove.ensures.room c.remove-in-Some-subject_of.ensures.room)

pub invariant_of-self-in_default-subject_of : goal.invariant_of-self-in_default-subject_of
invariant_of-self-in_default-subject_of c =
    rw c.remove.ensures.shown (clear_none _ _ c.self.invariant c.args.number c.in-Some.outgoing (sym c.remove.ensures.value ∙ c.in-Some.is) (sym c.subject_of.ensures ∙ c.in_default-subject_of.is))

pub returns-clause-rooms : goal.returns-clause-rooms
returns-clause-rooms c = rw (← c.self.view_is) (lost_push _ _ c.args.number c.remove.ensures.room)

pub returns-in_default-clause-gives : goal.returns-in_default-clause-gives
returns-in_default-clause-gives c = no_push_room _ _ c.args.number c.remove.ensures.room

pub returns-in-Some-subject_of-clause-gives : goal.returns-in-Some-subject_of-clause-gives
returns-in-Some-subject_of-clause-gives c = no_push_room _ _ c.args.number c.remove.ensures.room

pub returns-clause-gives : goal.returns-clause-gives
returns-clause-gives c = no_push_room _ _ c.args.number c.remove.ensures.room
