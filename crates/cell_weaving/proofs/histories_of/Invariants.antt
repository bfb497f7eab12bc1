use Rattle.std.proofs.Common.{◌≡◌, map, take}
use Rattle.std.specs.Prelude.{All}
use Rattle.cell_weaving.specs.Cells.{told_of, told_of_cell}
use Rattle.stored_nodes.specs.Keepers.{keeper_of}
use Rattle.node_cells.specs.Cells.{IsCell}
use Rattle.cell_weaving.proofs.histories_of.Given as goal

abbrev pub invariant-loop-cell : goal.invariant-loop-cell
invariant-loop-cell g l = (map told_of l.histories.items ≡ map told_of_cell (take l.cell-index l.cells))
    × All (IsCell (keeper_of g.K.Keep.content g.K.Keep.is_honest g.K.Keep.refusals g.K.Keep.may_leave)) (take l.cell-index l.cells)
