use Rattle.std.proofs.Common.{◌∙◌}
use Rattle.node_store.proofs.MovedTexts.{movable}
use Rattle.node_store.proofs.moving.add_edit_of_row.Goals as goal

pub returns-clause-movable : goal.returns-clause-movable
returns-clause-movable c =
    movable c.args.text.now c.kind.result.now c.name.result.now c.as_bytes.result.now c.in_ok-row.row c.kind.ensures c.name.ensures (c.as_bytes.ensures.value ∙ c.text.ensures) c.in_ok-row.ensures.row c.in_ok-row.ensures.place c.in_ok-add_edit.ensures.again
