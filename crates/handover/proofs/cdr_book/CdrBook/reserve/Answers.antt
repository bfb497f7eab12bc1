use Rattle.handover.proofs.Keeping.{has_cdr_room, cdr_room_parts, keeps_cdr_room, kept_room}
use Rattle.tables.proofs.Nothing.{ok_not_err}
use Rattle.handover.proofs.cdr_book.CdrBook.reserve.Goals as goal

pub returns-in_err-reserve-clause-again : goal.returns-in_err-reserve-clause-again
returns-in_err-reserve-clause-again c = rw (← c.self.view_is) (λ had.
    let parts = cdr_room_parts _ c.args.cdr.now _ _ _ c.key-operator.ensures c.key-id.ensures c.group_of-group.ensures had in
    ok_not_err _ _ c.in_err-reserve.was (c.reserve.ensures.again parts.0))

pub invariant_of-self-2 : goal.invariant_of-self-2
invariant_of-self-2 c = kept_room _ _ _ _ _ _ _ _ c.self.invariant c.reserve.ensures.shown c.reserve-2.ensures.shown c.reserve-3.ensures.shown c.reserve-3.ensures.keeps

pub returns-in_err-reserve-2-clause-keeps : goal.returns-in_err-reserve-2-clause-keeps
returns-in_err-reserve-2-clause-keeps c = rw (← c.self.view_is) (keeps_cdr_room _ _ c.reserve.ensures.keeps c.reserve-2.ensures.keeps (λ q had. had))

pub returns-in_err-reserve-2-clause-again : goal.returns-in_err-reserve-2-clause-again
returns-in_err-reserve-2-clause-again c = rw (← c.self.view_is) (λ had.
    let parts = cdr_room_parts _ c.args.cdr.now _ _ _ c.key-operator.ensures c.key-id.ensures c.group_of-group.ensures had in
    ok_not_err _ _ c.in_err-reserve-2.was (c.reserve-2.ensures.again parts.1))

pub returns-in_err-reserve-3-clause-keeps : goal.returns-in_err-reserve-3-clause-keeps
returns-in_err-reserve-3-clause-keeps c = rw (← c.self.view_is) (keeps_cdr_room _ _ c.reserve.ensures.keeps c.reserve-2.ensures.keeps c.reserve-3.ensures.keeps)

pub returns-in_err-reserve-3-clause-again : goal.returns-in_err-reserve-3-clause-again
returns-in_err-reserve-3-clause-again c = rw (← c.self.view_is) (λ had.
    let parts = cdr_room_parts _ c.args.cdr.now _ _ _ c.key-operator.ensures c.key-id.ensures c.group_of-group.ensures had in
    ok_not_err _ _ c.in_err-reserve-3.was (c.reserve-3.ensures.again parts.2))

pub returns-clause-room : goal.returns-clause-room
returns-clause-room c =
    has_cdr_room _ c.args.cdr.now _ _ _ c.key-operator.ensures c.key-id.ensures c.group_of-group.ensures c.in_ok-reserve.ensures.ready c.in_ok-reserve-2.ensures.ready c.in_ok-reserve-3.ensures.ready

pub returns-clause-keeps : goal.returns-clause-keeps
returns-clause-keeps c = rw (← c.self.view_is) (keeps_cdr_room _ _ c.reserve.ensures.keeps c.reserve-2.ensures.keeps c.reserve-3.ensures.keeps)
