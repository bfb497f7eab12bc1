use Rattle.std.proofs.Common.{subst}
use Rattle.std.proofs.lemmas.List.Elements.{All-more}
use Rattle.node_store.specs.Moving.{MayMove}
use Rattle.node_store.proofs.MovedTexts.{one_more}
use Rattle.node_store.proofs.moving.edits_of.Goals as goal

pub loop-text-preserved : goal.loop-text-preserved
loop-text-preserved c =
    let at = c.loop-text in
    let es = c.args.texts.now in
    let one = c.text-item.result in (
      one_more es at.text-index one at.edits.items c.add_edit_of.new.edits.items c.loop-text-test.true c.text-item.is c.in_ok-add_edit_of.ensures.edits at.invariant.0,
      All-more MayMove es at.text-index one c.loop-text-test.true at.invariant.1 (subst MayMove c.text-item.is c.in_ok-add_edit_of.ensures.movable),
    )
