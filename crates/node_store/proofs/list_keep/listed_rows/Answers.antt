use Rattle.std.proofs.Common.{◌≡◌, [], None, sym, ap, ◌∙◌}
use Rattle.std.specs.Prelude.{option_copied}
use Rattle.node_store.specs.Contents.{rows_after}
use Rattle.node_store.specs.Numbers.{others}
use Rattle.node_store.specs.Placing.{entries_at, kept}
use Rattle.node_store.specs.declared.fault.StoreFault.TheVariants.{BadRow}
use Rattle.node_store.proofs.Listed.{err_one, next_row, none_there}
use Rattle.node_store.proofs.list_keep.listed_rows.Goals as goal

pub returns-in_err-row-clause-bad : goal.returns-in_err-row-clause-bad
returns-in_err-row-clause-bad c =
    let at = c.loop-place in
    let old = kept c.args.stored.now in
    err_one (λ e. e ≡ BadRow → rows_after [] (others (entries_at old c.args.places.now)) ≡ None) c.from_residual-in_err-row.result _ c.from_residual-in_err-row.ensures.1
    (none_there old c.args.places.now at.place-index c.place-item.result c.loop-place-test.true c.place-item.is c.in-Some.kept.now _ _ c.as_str.ensures.value c.as_str-in-loop-place.ensures.value (sym c.is_line_place.ensures ∙ c.if-is_line_place.false)
    (sym c.get.ensures ∙ ap option_copied c.in-Some.is) at.rows.items _ _ _ c.as_str-in-loop-place-2.ensures.value c.as_str-in-loop-place-3.ensures.value (c.as_bytes.ensures.value ∙ c.in_ok-text.ensures)
    c.row_of.result _ _ c.row_of.ensures c.in_err-row.was at.invariant)

pub loop-place-preserved : goal.loop-place-preserved
loop-place-preserved c =
    let at = c.loop-place in
    next_row (kept c.args.stored.now) c.args.places.now at.place-index c.place-item.result c.loop-place-test.true c.place-item.is c.in-Some.kept.now _ _ c.as_str.ensures.value c.as_str-in-loop-place.ensures.value (sym c.is_line_place.ensures ∙ c.if-is_line_place.false)
    (sym c.get.ensures ∙ ap option_copied c.in-Some.is) at.rows.items _ _ _ c.as_str-in-loop-place-2.ensures.value c.as_str-in-loop-place-3.ensures.value (c.as_bytes.ensures.value ∙ c.in_ok-text.ensures)
    c.in_ok-row.row c.push.new.self.items _ c.in_ok-row.ensures c.in_ok-push.ensures.items at.invariant
