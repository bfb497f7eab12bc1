use Rattle.std.proofs.Common.{◌++◌, sym, ap, ◌∙◌}
use Rattle.tables.specs.Queues.{due_front}
use Rattle.tables.proofs.DueFront.{front_more, front_ends, none_due}
use Rattle.tables.proofs.Elements.{one_more, none_left, not_none}
use Rattle.tables.proofs.queue.Table+tuple2+Moment+K+unit.push_due.Goals as goal

pub loop-key-preserved : goal.loop-key-preserved
loop-key-preserved g c =
    let front = ap (due_front c.args.at) c.in-Some.ensures.steps ∙ front_more c.args.at (c.in-Some.key.now, c.in-Some.field-0-1.now) c.next.new.self (sym c.gt.ensures ∙ c.if-gt.false) in
    (one_more _ _ _ _ _ _ c.in_ok-push.ensures.items front c.loop-key.invariant.0, λ none. not_none _ _ _ front (c.loop-key.invariant.1 none))

pub returns-then-gt-clause-list : goal.returns-then-gt-clause-list
returns-then-gt-clause-list g c =
    none_left _ _ _ (ap (due_front c.args.at) c.in-Some.ensures.steps ∙ front_ends c.args.at (c.in-Some.key.now, c.in-Some.field-0-1.now) c.next.new.self (sym c.gt.ensures ∙ c.if-gt.true)) c.loop-key.invariant.0
    ∙ ap (λ l. c.args.due.now.items ++ due_front c.args.at l) (cc)

pub returns-in_err-push-clause-none : goal.returns-in_err-push-clause-none
returns-in_err-push-clause-none g c = λ none.
    not_none _ _ _ (ap (due_front c.args.at) c.in-Some.ensures.steps ∙ front_more c.args.at (c.in-Some.key.now, c.in-Some.field-0-1.now) c.next.new.self (sym c.gt.ensures ∙ c.if-gt.false))
    (c.loop-key.invariant.1 (ap (due_front c.args.at) (cc) ∙ none_due g.met.K.Ord.total g.met.K.TableKey.exact c.args.at _ none))

pub returns-clause-list : goal.returns-clause-list
returns-clause-list g c = none_left _ _ _ (ap (due_front c.args.at) c.in-None.ensures.steps.0) c.loop-key.invariant.0 ∙ ap (λ l. c.args.due.now.items ++ due_front c.args.at l) (cc)
