use Rattle.std.proofs.Common.{arith, ap, subst, sym, true, false, ◌∙◌, ◌+◌, ◌++◌, ◌<◌, ℕ, List, drop, length, map, slice_index_or, take_all}
use Rattle.ocpi_types.specs.declared.rows.Change.{Change}
use Rattle.std.proofs.lemmas.List.Elements.{All-more}
use Rattle.node_store.specs.Contents.{IsReadAgain}
use Rattle.node_store.specs.Editing.{edit_of, written}
use Rattle.row_table.specs.Effects.{Edit}
use Rattle.node_store.proofs.Written.{later_is, left_out, one_more}
use Rattle.node_store.proofs.editing.change_edits.Goals as goal

pub loop-i-preserved-then-is_put_later : goal.loop-i-preserved-then-is_put_later
loop-i-preserved-then-is_put_later c =
    let at = c.loop-i in
    let xs = c.args.changes.now in
    let one = c.index-changes-i.result in (
      left_out xs at.edits.items at.i one (omega (arith, c.loop-i-test.true)) c.index-changes-i.is at.invariant.0 (later_is xs (at.i + 1) one true (sym c.is_put_later.ensures.later ∙ c.if-is_put_later.true)),
      All-more IsReadAgain xs at.i one (omega (arith, c.loop-i-test.true)) at.invariant.1 (subst IsReadAgain c.index-changes-i.is (c.is_put_later.ensures.again c.if-is_put_later.true)),
    )

pub loop-i-preserved : goal.loop-i-preserved
loop-i-preserved c =
    let at = c.loop-i in
    let xs = c.args.changes.now in
    let one = c.index-changes-i.result in
    let edits = one_more xs at.edits.items at.i one (omega (arith, c.loop-i-test.true)) c.index-changes-i.is at.invariant.0 c.in_ok-next.next c.in_ok-next.ensures.edit (later_is xs (at.i + 1) one false (sym c.is_put_later.ensures.later ∙ c.if-is_put_later.false)) in (
      ap (λ (es : List Edit). es ++ map edit_of (written (drop (at.i + 1) xs))) c.in_ok-push.ensures.items ∙ edits,
      All-more IsReadAgain xs at.i one (omega (arith, c.loop-i-test.true)) at.invariant.1 (subst IsReadAgain c.index-changes-i.is c.in_ok-next.ensures.again),
    )

pub returns-clause-again : goal.returns-clause-again
returns-clause-again c = subst (λ xs. (k : ℕ) → (d : Change) → k < length xs → IsReadAgain (slice_index_or xs k d)) (take_all c.loop-i.i c.args.changes.now (omega (arith, c.loop-i-test.false))) c.loop-i.invariant.1
