use Rattle.std.proofs.Common.{arith, sym, ◌∙◌}
use Rattle.provider_rows.proofs.TimeRooms.{more_time_room, keeps_room_of, not_refused}
use Rattle.provider_rows.proofs.making_room.reserve_times.Goals as goal

pub returns-in_err-reserve_time-clause-again : goal.returns-in_err-reserve_time-clause-again
returns-in_err-reserve_time-clause-again c = λ had.
    let at = c.loop-change in
    let less = c.loop-change-test.true in
    not_refused _ _ c.in_err-reserve_time.was (c.reserve_time.ensures.again (keeps_room_of c.args.outbox.now.sending at.outbox.sending at.invariant.keeps c.change-item.result (had c.change-item.result (at.change-index, omega (arith, less), sym c.change-item.is))))

pub loop-change-preserved : goal.loop-change-preserved
loop-change-preserved c =
    let at = c.loop-change in
    let less = c.loop-change-test.true in
    record {
      rows = c.reserve_time.ensures.rows ∙ at.invariant.rows;
      rooms = c.reserve_time.ensures.rooms ∙ at.invariant.rooms;
      resend = c.reserve_time.ensures.resend ∙ at.invariant.resend;
      made = more_time_room at.outbox.sending c.reserve_time.new.outbox.sending c.args.volatile.now at.change-index c.change-item.result (omega arith) c.change-item.is at.invariant.made c.reserve_time.ensures.keeps c.in_ok-reserve_time.ensures.room;
      keeps = λ n moment had. c.reserve_time.ensures.keeps n moment (at.invariant.keeps n moment had);
    }
