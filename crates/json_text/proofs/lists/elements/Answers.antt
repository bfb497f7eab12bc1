use Rattle.std.proofs.Common.{[]}
use Rattle.std.proofs.lemmas.Result.{err_from_is_err_and}
use Rattle.json_text.specs.Trees.{items_view}
use Rattle.json_text.specs.Fields.{each_after}
use Rattle.json_text.proofs.Listing.{goes_on, fails, is_done}
use Rattle.json_text.proofs.lists.elements.Goals as goal

pub returns-in_err-element : goal.returns-in_err-element
returns-in_err-element g c =
    let p = err_from_is_err_and c.from_residual.result c.from_residual.ensures.1 in
    let reader = g.R.ElementReader.at c.args.reader.now in
    let total = each_after reader [] (items_view c.args.values.now) in
    rw (p.1, p.2) (fails reader c.loop-value.out.items c.args.values.now c.loop-value.value-index c.value-item.result c.as_slice.result.now c.in_err-element.field-0.0 total c.loop-value-test.true c.value-item.is c.as_slice.ensures.value c.in_err-element.ensures c.loop-value.invariant)

pub loop-value-preserved : goal.loop-value-preserved
loop-value-preserved g c =
    let reader = g.R.ElementReader.at c.args.reader.now in
    let total = each_after reader [] (items_view c.args.values.now) in
    rw c.in_ok-push.ensures.items (goes_on reader c.loop-value.out.items c.args.values.now c.loop-value.value-index c.value-item.result c.as_slice.result.now c.in_ok-element.element total c.loop-value-test.true c.value-item.is c.as_slice.ensures.value c.in_ok-element.ensures c.loop-value.invariant)

pub returns : goal.returns
returns g c =
    let reader = g.R.ElementReader.at c.args.reader.now in
    let total = each_after reader [] (items_view c.args.values.now) in
    is_done reader c.loop-value.out.items c.args.values.now c.loop-value.value-index total c.loop-value-test.false c.loop-value.invariant
