use Rattle.std.proofs.Common.{arith, length, refl, ◌∙◌}
use Rattle.std.proofs.lemmas.Option.{slice_get_within, slice_get_read}
use Rattle.operator_rows.proofs.RowRooms.{more_rooms}
use Rattle.operator_rows.proofs.TimeRooms.{not_refused}
use Rattle.operator_rows.proofs.books.Books.reserve_all.Goals as goal

pub loop-change-preserved : goal.loop-change-preserved
loop-change-preserved c =
    let less = c.loop-change-test.true in
    let here = slice_get_read c.args.changes.now (length c.args.changes.now) c.loop-change.change-index c.change-item.result refl (omega (arith, less)) c.change-item.is in
    record {
      state = c.reserve.ensures.state ∙ c.loop-change.invariant.state;
      sending = c.reserve.ensures.sending ∙ c.loop-change.invariant.sending;
      waiting = c.reserve.ensures.waiting ∙ c.loop-change.invariant.waiting;
      made = more_rooms c.loop-change.self.rooms c.reserve.new.self.rooms c.args.changes.now c.loop-change.change-index c.change-item.result here c.loop-change.invariant.made c.reserve.ensures.keeps c.in_ok-reserve.ensures.room;
      keeps = λ d had. c.reserve.ensures.keeps d (c.loop-change.invariant.keeps d had);
    }

pub returns-clause-room : goal.returns-clause-room
returns-clause-room c = λ k d e.
    let within = slice_get_within c.args.changes.now k d e in
    let over = c.loop-change-test.false in
    c.loop-change.invariant.made k (omega (arith, within, over)) d e

pub returns-in_err-reserve-clause-again : goal.returns-in_err-reserve-clause-again
returns-in_err-reserve-clause-again c = λ had.
    let at = c.loop-change in
    let less = c.loop-change-test.true in
    let here = slice_get_read c.args.changes.now (length c.args.changes.now) at.change-index c.change-item.result refl (omega (arith, less)) c.change-item.is in
    not_refused _ _ c.in_err-reserve.was (c.reserve.ensures.again (at.invariant.keeps c.change-item.result (had at.change-index c.change-item.result here)))
