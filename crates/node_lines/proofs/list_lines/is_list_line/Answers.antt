use Rattle.std.proofs.Common.{◌↔◌, ℕ, IsTrue, List, sym, subst, arith}
use Rattle.std.proofs.lemmas.List.{length-take-le, take_all}
use Rattle.node_lines.specs.ListLines.{BeginsList}
use Rattle.node_lines.proofs.list_lines.is_list_line.Goals as goal

pub slice_bounds-begins_list-end : goal.slice_bounds-begins_list-end
slice_bounds-begins_list-end c = sym (length-take-le 1048577 c.args.line.now (omega (arith, c.if-line-gt-KEPT_BYTES.true)))

pub returns-else-line-gt-KEPT_BYTES : goal.returns-else-line-gt-KEPT_BYTES
returns-else-line-gt-KEPT_BYTES c =
    let all = take_all 1048577 c.args.line.now c.if-line-gt-KEPT_BYTES.false in
    subst (λ (text : List ℕ). IsTrue c.begins_list-else-line-gt-KEPT_BYTES.result ↔ BeginsList text) (sym all) c.begins_list-else-line-gt-KEPT_BYTES.ensures
