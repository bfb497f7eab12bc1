use Rattle.weave.proofs.Needing.{all_given}
use Rattle.weave.proofs.Reaching.{block, finished}
use Rattle.weave.proofs.Sweeping.{fewer, on_false, on_true}
use Rattle.weave.proofs.weaving.order.Goals as goal

pub loop-weaving-smaller : goal.loop-weaving-smaller
loop-weaving-smaller c =
    fewer c.args.given.now c.args.histories.now c.loop-weaving.weaving c.sweep.new.weaving c.in_ok-sweep.ensures.under_way.reached (on_true _ _ c.in_ok-sweep.ensures.moved c.if-branch.true)

pub returns-then-is_done-clause-order : goal.returns-then-is_done-clause-order
returns-then-is_done-clause-order c = finished c.args.given.now c.args.histories.now _ _ _ c.in_ok-sweep.ensures.under_way.reached c.if-is_done.ensures.done

pub returns-else-is_done-clause-fault : goal.returns-else-is_done-clause-fault
returns-else-is_done-clause-fault c = (
  block c.args.given.now c.args.histories.now _ _ _ c.in_ok-sweep.ensures.under_way.reached c.requires.apart c.requires.numbered (on_false _ _ c.in_ok-sweep.ensures.stuck c.if-branch.false) c.if-is_done.ensures.more,
  all_given c.args.given.now c.args.histories.now c.args.needs.now c.requires.needs,
)
