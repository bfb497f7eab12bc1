use Rattle.std.proofs.Common.{◌+◌, arith}
use Rattle.ocpi_text.specs.Cells.{text_fits}
use Rattle.ocpi_text.proofs.TextLength.{in_text, not_in_text}
use Rattle.ocpi_text.proofs.ci_text.text_len.Goals as goal

pub overflow_sub-cells : goal.overflow_sub-cells
overflow_sub-cells c = omega (arith, c.eights.invariant, text_fits c.args.cells.now)

pub eights-preserved : goal.eights-preserved
eights-preserved c =
    let last = in_text c.args.cells.now (c.eights.len + 7) c.requires c.if-cells-len-ne0.true in
    omega arith

pub cells-preserved : goal.cells-preserved
cells-preserved c =
    let next = in_text c.args.cells.now c.cells.len c.requires c.if-cells-len-ne0-2.true in
    omega arith

pub returns-else-cells-len-ne0-2 : goal.returns-else-cells-len-ne0-2
returns-else-cells-len-ne0-2 c =
    let end = not_in_text c.args.cells.now c.cells.len c.if-cells-len-ne0-2.false in
    omega (arith, c.cells.invariant)

pub returns-after-cells : goal.returns-after-cells
returns-after-cells c = omega (arith, c.cells.invariant, c.cells-test.false, text_fits c.args.cells.now)
