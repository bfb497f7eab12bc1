use Rattle.std.proofs.Common.{◌<◌, ◌≤◌, length, sym, subst, arith}
use Rattle.std.specs.Bool.{OnTrue}
use Rattle.weave.proofs.Sweeping.{fewer, on_false, on_true, stuck_on}
use Rattle.weave.proofs.weaving.sweep.Goals as goal

pub loop-moved-smaller : goal.loop-moved-smaller
loop-moved-smaller c =
    let more = on_true _ _ c.in_ok-take_entry.ensures.taken c.if-branch.true in
    fewer c.args.given.now c.args.histories.now c.loop-moved.weaving c.take_entry.new.weaving c.in_ok-take_entry.ensures.under_way.reached (omega (arith, more))

pub loop-i-preserved : goal.loop-i-preserved
loop-i-preserved c =
    let (same, here) = on_false _ _ c.in_ok-take_entry.ensures.stuck c.if-branch.false in
    record {
      under_way = c.in_ok-take_entry.ensures.under_way;
      grown = subst (λ w. length c.args.weaving.now.turns.items ≤ length w.turns.items) (sym same) c.loop-moved.invariant.grown;
      moved = subst (λ w. OnTrue c.loop-moved.moved (length c.args.weaving.now.turns.items < length w.turns.items)) (sym same) c.loop-moved.invariant.moved;
      stuck = stuck_on c.args.given.now c.args.histories.now c.loop-moved.moved c.loop-moved.weaving c.take_entry.new.weaving c.loop-i.i same c.loop-moved.invariant.stuck here;
    }
