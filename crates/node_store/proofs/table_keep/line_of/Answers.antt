use Rattle.std.proofs.Common.{ℕ, Option, sym, ap, subst, ◌∙◌}
use Rattle.node_store.specs.Contents.{AnswersNumber, number_kept, number_of_text}
use Rattle.node_store.proofs.Numbered.{number_found, number_later}
use Rattle.node_store.proofs.table_keep.line_of.Goals as goal

pub returns-then-is_line_place : goal.returns-then-is_line_place
returns-then-is_line_place c =
    let at = c.loop-text in
    let es = c.args.texts.now in
    let one = c.text-item.result in
    let found = number_found es at.text-index one c.kind.result.now c.name.result.now c.loop-text-test.true c.text-item.is c.kind.ensures c.name.ensures at.invariant (sym c.is_line_place.ensures ∙ c.if-is_line_place.true) in
    subst (λ (o : Option ℕ). AnswersNumber c.number_of_text.result o) (ap number_of_text (c.as_bytes.ensures.value ∙ c.text.ensures) ∙ sym (ap number_kept found)) c.number_of_text.ensures

pub loop-text-preserved : goal.loop-text-preserved
loop-text-preserved c =
    let at = c.loop-text in
    number_later c.args.texts.now at.text-index c.text-item.result c.kind.result.now c.name.result.now c.loop-text-test.true c.text-item.is c.kind.ensures c.name.ensures at.invariant
    (sym c.is_line_place.ensures ∙ c.if-is_line_place.false)
