use Rattle.std.proofs.Common.{arith, sym, ◌∙◌}
use Rattle.tables.proofs.Nothing.{ok_not_err}
use Rattle.authorization_book.proofs.Roomed.{more_room}
use Rattle.authorization_book.proofs.book.AuthorizationBook.reserve_all.Goals as goal

pub returns-in_err-reserve-clause-again : goal.returns-in_err-reserve-clause-again
returns-in_err-reserve-clause-again c = λ had.
    let at = c.loop-waiting in
    let less = c.loop-waiting-test.true in
    ok_not_err _ _ c.in_err-reserve.was (c.reserve.ensures.again (at.invariant.keeps c.waiting-item.result (had c.waiting-item.result (at.waiting-index, omega (arith, less), sym c.waiting-item.is))))

pub loop-waiting-preserved : goal.loop-waiting-preserved
loop-waiting-preserved c =
    let at = c.loop-waiting in
    let less = c.loop-waiting-test.true in
    record {
      waits = c.reserve.ensures.waits ∙ at.invariant.waits;
      made = more_room at.self.rooms c.reserve.new.self.rooms c.args.waitings.now at.waiting-index c.waiting-item.result (omega arith) c.waiting-item.is at.invariant.made c.reserve.ensures.keeps c.in_ok-reserve.ensures.room;
      keeps = λ w had. c.reserve.ensures.keeps w (at.invariant.keeps w had);
    }
