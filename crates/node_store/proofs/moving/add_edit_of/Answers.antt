use Rattle.std.proofs.Common.{sym, ◌∙◌}
use Rattle.node_store.proofs.MovedTexts.{passed, passed_edits}
use Rattle.node_store.proofs.moving.add_edit_of.Goals as goal

pub returns-then-is_line_place-clause-edits : goal.returns-then-is_line_place-clause-edits
returns-then-is_line_place-clause-edits c =
    passed_edits c.args.text.now c.kind.result.now c.name.result.now c.kind.ensures c.name.ensures c.args.edits.now.items (sym c.is_line_place.ensures ∙ c.if-is_line_place.true)

pub returns-then-is_line_place-clause-movable : goal.returns-then-is_line_place-clause-movable
returns-then-is_line_place-clause-movable c = passed c.args.text.now c.kind.result.now c.name.result.now c.kind.ensures c.name.ensures (sym c.is_line_place.ensures ∙ c.if-is_line_place.true)
