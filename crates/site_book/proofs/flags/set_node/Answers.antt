use Rattle.std.proofs.Common.{◌+◌, ◌*◌, ◌/◌, ◌<◌, ◌≡◌, ◌∙◌, length, length-set, arith}
use Rattle.std.proofs.lemmas.List.{drop-set-lt, drop-set-add}
use Rattle.site_book.proofs.Trees.{leaf_changed, node_changed}
use Rattle.site_book.proofs.flags.set_node.Goals as goal

pub loop-k-init : goal.loop-k-init
loop-k-init c = record {
  some = omega (arith, c.requires.tree.wide);
  within = omega (arith, c.requires.within);
  joint = leaf_changed c.args.width c.args.nodes.now c.args.place c.args.value c.requires.tree;
  flags = drop-set-add c.args.width c.args.nodes.now c.args.place c.args.value;
}

pub loop-k-preserved : goal.loop-k-preserved
loop-k-preserved c =
    let size : length c.loop-k.nodes ≡ 2 * c.args.width = omega (arith, c.loop-k.auto.nodes, length-set c.args.nodes.now (c.args.width + c.args.place) c.args.value, c.requires.tree.size) in
    let within = c.loop-k.invariant.within in
    let inner : c.loop-k.k / 2 < c.args.width = omega arith in
    record {
      some = omega arith;
      within = omega arith;
      joint = rw c.is_joined.ensures (node_changed c.args.width c.loop-k.nodes c.loop-k.k size c.loop-k-test.true within c.loop-k.invariant.joint);
      flags = drop-set-lt c.args.width c.loop-k.nodes (c.loop-k.k / 2) _ inner ∙ c.loop-k.invariant.flags;
    }
