use Rattle.std.proofs.Common.{ap, subst, ◌∙◌}
use Rattle.std.specs.Prelude.{Contains}
use Rattle.outbox.specs.Due.{untimed}
use Rattle.outbox.proofs.DueNumbers.{untimed_takes, front_kept, front_first, no_time}
use Rattle.tables.proofs.Options.{on_err}
use Rattle.tables.proofs.Elements.{one_more}
use Rattle.outbox.proofs.send_times.push_untimed.Goals as goal

pub loop-number-preserved-in-Continue-1 : goal.loop-number-preserved-in-Continue-1
loop-number-preserved-in-Continue-1 g c =
    let more = ap (untimed c.args.times.now.resend) c.in-Some.ensures.steps ∙ untimed_takes c.args.times.now.resend (c.in-Some.number.now, c.in-Some.field-0-1.now) c.next.new.self (no_time _ _ _ c.get.ensures c.is_none.ensures c.if-is_none.true) in
    (one_more _ _ _ _ _ _ c.in_ok-push.ensures.items more c.loop-number.invariant.0, λ n i. c.loop-number.invariant.1 n (front_kept _ _ _ more n i))

pub returns-in_err-push-clause-err : goal.returns-in_err-push-clause-err
returns-in_err-push-clause-err g c =
    let more = ap (untimed c.args.times.now.resend) c.in-Some.ensures.steps ∙ untimed_takes c.args.times.now.resend (c.in-Some.number.now, c.in-Some.field-0-1.now) c.next.new.self (no_time _ _ _ c.get.ensures c.is_none.ensures c.if-is_none.true) in
    on_err c.from_residual.result (c.in-Some.number.now, subst (λ l. Contains (untimed c.args.times.now.resend l) c.in-Some.number.now) (cc) (c.loop-number.invariant.1 c.in-Some.number.now (front_first _ _ _ more)))
