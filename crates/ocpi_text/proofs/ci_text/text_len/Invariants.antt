use Rattle.std.proofs.Common.{◌-◌, ◌≤◌, length}
use Rattle.ocpi_text.specs.Cells.{text_len}
use Rattle.ocpi_text.proofs.ci_text.text_len.Given as goal

abbrev pub invariant-eights : goal.invariant-eights
invariant-eights l = l.len ≤ text_len l.cells

abbrev pub decreases-eights : goal.decreases-eights
decreases-eights l = length l.cells - l.len

abbrev pub invariant-cells : goal.invariant-cells
invariant-cells l = l.len ≤ text_len l.cells

abbrev pub decreases-cells : goal.decreases-cells
decreases-cells l = length l.cells - l.len
