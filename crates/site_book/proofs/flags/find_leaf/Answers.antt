use Rattle.std.proofs.Common.{arith}
use Rattle.site_book.proofs.Trees.{none_set, leaf_set, second_set, leftmost_first, leftmost_second, none_left}
use Rattle.site_book.proofs.flags.find_leaf.Goals as goal

pub returns-then-not-nodes-clause-none : goal.returns-then-not-nodes-clause-none
returns-then-not-nodes-clause-none c = none_set c.args.width c.args.nodes.now c.requires c.if-not-nodes.true

pub returns-clause-some : goal.returns-clause-some
returns-clause-some c = leaf_set c.args.width c.args.nodes.now c.requires c.loop-k.k c.loop-k-test.false c.loop-k.invariant.within c.loop-k.invariant.is

pub returns-clause-first : goal.returns-clause-first
returns-clause-first c = none_left c.args.width c.args.nodes.now c.requires c.loop-k.k c.loop-k.invariant.leftmost c.loop-k-test.false

pub loop-k-preserved-then-nodes-k : goal.loop-k-preserved-then-nodes-k
loop-k-preserved-then-nodes-k c =
    let inner = c.loop-k-test.true in
    let some = c.loop-k.invariant.some in
    record {
      some = omega arith;
      within = omega arith;
      is = c.if-nodes-k.true;
      leftmost = leftmost_first c.args.width c.args.nodes.now c.requires c.loop-k.k c.loop-k.invariant.leftmost inner;
    }

pub loop-k-preserved : goal.loop-k-preserved
loop-k-preserved c =
    let inner = c.loop-k-test.true in
    let some = c.loop-k.invariant.some in
    record {
      some = omega arith;
      within = omega arith;
      is = second_set c.args.nodes.now c.loop-k.k (c.requires.joint c.loop-k.k some inner) c.loop-k.invariant.is c.if-nodes-k.false;
      leftmost = leftmost_second c.args.width c.args.nodes.now c.requires c.loop-k.k c.loop-k.invariant.leftmost inner c.if-nodes-k.false;
    }
