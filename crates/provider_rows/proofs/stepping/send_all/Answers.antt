use Rattle.std.proofs.Common.{◌≡◌, ◌+◌, ◌∷◌, drop, suc, ◌∙◌, ap, sym, subst, arith, add-one}
use Rattle.std.proofs.Math.Seq.{drop-cons}
use Rattle.tables.proofs.Elements.{in_front}
use Rattle.provider_rows.specs.Steps.{AreSendable, HaveTimeRoom, timed, timed_all}
use Rattle.provider_rows.proofs.TimeRooms.{later_sendable, sent_room}
use Rattle.provider_rows.proofs.stepping.send_all.Goals as goal

pub send-requires : goal.send-requires
send-requires c =
    let l = c.loop-change in
    let less = c.loop-change-test.true in
    let v = c.change-item.result in
    let rest = drop (l.change-index + 1) c.args.volatile.now in
    let cut : drop l.change-index c.args.volatile.now ≡ v ∷ rest =
    drop-cons c.args.volatile.now l.change-index v (omega arith) ∙ ap (λ k. k ∷ drop (suc l.change-index) c.args.volatile.now) (sym c.change-item.is) ∙ ap (λ k. v ∷ drop k c.args.volatile.now) (sym (add-one l.change-index)) in
    record {
      room = (subst (λ vs. HaveTimeRoom l.outbox.sending vs) cut l.invariant.room) v (in_front v rest);
      waits = (subst (λ vs. AreSendable l.outbox.rows vs) cut l.invariant.sendable).waits v (in_front v rest);
    }

pub loop-change-preserved : goal.loop-change-preserved
loop-change-preserved c =
    let l = c.loop-change in
    let less = c.loop-change-test.true in
    let v = c.change-item.result in
    let rest = drop (l.change-index + 1) c.args.volatile.now in
    let cut : drop l.change-index c.args.volatile.now ≡ v ∷ rest =
    drop-cons c.args.volatile.now l.change-index v (omega arith) ∙ ap (λ k. k ∷ drop (suc l.change-index) c.args.volatile.now) (sym c.change-item.is) ∙ ap (λ k. v ∷ drop k c.args.volatile.now) (sym (add-one l.change-index)) in
    let room = subst (λ vs. HaveTimeRoom l.outbox.sending vs) cut l.invariant.room in
    let sendable = subst (λ vs. AreSendable l.outbox.rows vs) cut l.invariant.sendable in
    let times : timed_all rest (timed v l.outbox.resend) ≡ timed_all c.args.volatile.now c.args.outbox.now.resend = sym (ap (λ vs. timed_all vs l.outbox.resend) cut) ∙ l.invariant.resend in
    record {
      rows = c.send.ensures.rows ∙ l.invariant.rows;
      rooms = c.send.ensures.rooms ∙ l.invariant.rooms;
      resend = ap (timed_all rest) c.send.ensures.resend ∙ times;
      room = sent_room v rest l.outbox.rows l.outbox.resend l.outbox.sending c.send.new.outbox.sending sendable c.send.ensures.sending room;
      sendable = rw c.send.ensures.rows (later_sendable v rest l.outbox.rows sendable);
    }
