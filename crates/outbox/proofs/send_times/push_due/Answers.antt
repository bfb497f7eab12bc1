use Rattle.std.proofs.Common.{◌++◌, sym, ap, subst, ◌∙◌}
use Rattle.std.specs.Prelude.{Contains}
use Rattle.outbox.specs.Due.{due_front}
use Rattle.outbox.proofs.DueNumbers.{front_more, front_ends, front_kept, front_first}
use Rattle.tables.proofs.Options.{on_err}
use Rattle.tables.proofs.Elements.{one_more, none_left}
use Rattle.outbox.proofs.send_times.push_due.Goals as goal

pub loop-key-preserved : goal.loop-key-preserved
loop-key-preserved c =
    let more = ap (due_front c.args.at) c.in-Some.ensures.steps ∙ front_more c.args.at (c.in-Some.key.now, c.in-Some.field-0-1.now) c.next.new.self (sym c.gt.ensures ∙ c.if-gt.false) in
    (one_more _ _ _ _ _ _ c.in_ok-push.ensures.items more c.loop-key.invariant.0, λ n i. c.loop-key.invariant.1 n (front_kept _ _ _ more n i))

pub returns-then-gt-clause-ok : goal.returns-then-gt-clause-ok
returns-then-gt-clause-ok c =
    none_left _ _ _ (ap (due_front c.args.at) c.in-Some.ensures.steps ∙ front_ends c.args.at (c.in-Some.key.now, c.in-Some.field-0-1.now) c.next.new.self (sym c.gt.ensures ∙ c.if-gt.true)) c.loop-key.invariant.0
    ∙ ap (λ l. c.args.due.now.items ++ due_front c.args.at l) (cc)

pub returns-clause-ok : goal.returns-clause-ok
returns-clause-ok c = none_left _ _ _ (ap (due_front c.args.at) c.in-None.ensures.steps.0) c.loop-key.invariant.0 ∙ ap (λ l. c.args.due.now.items ++ due_front c.args.at l) (cc)

pub returns-in_err-push-clause-err : goal.returns-in_err-push-clause-err
returns-in_err-push-clause-err c =
    let more = ap (due_front c.args.at) c.in-Some.ensures.steps ∙ front_more c.args.at (c.in-Some.key.now, c.in-Some.field-0-1.now) c.next.new.self (sym c.gt.ensures ∙ c.if-gt.false) in
    on_err c.from_residual.result (c.in-Some.key.now.1, subst (λ l. Contains (due_front c.args.at l) c.in-Some.key.now.1) (cc) (c.loop-key.invariant.1 c.in-Some.key.now.1 (front_first _ _ _ more)))
