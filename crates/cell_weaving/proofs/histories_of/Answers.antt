use Rattle.std.proofs.Common.{refl}
use Rattle.std.proofs.lemmas.Option.{slice_get_read}
use Rattle.stored_nodes.specs.Keepers.{keeper_of}
use Rattle.node_cells.specs.Cells.{IsCell}
use Rattle.cell_weaving.proofs.Weaving.{all_more, told_more}
use Rattle.cell_weaving.proofs.histories_of.Goals as goal

pub loop-cell-preserved : goal.loop-cell-preserved
loop-cell-preserved g c =
    let at = slice_get_read _ _ c.loop-cell.cell-index c.cell-item.result refl c.loop-cell-test.true c.cell-item.is in (
      told_more c.loop-cell.histories.items c.push.new.self.items c.args.cells.now c.loop-cell.cell-index c.history_of-history.result c.cell-item.result at c.loop-cell.invariant.0
          c.history_of-history.ensures.told c.in-Ok.ensures.items,
      all_more (IsCell (keeper_of g.K.Keep.content g.K.Keep.is_honest g.K.Keep.refusals g.K.Keep.may_leave)) c.args.cells.now c.loop-cell.cell-index c.cell-item.result at c.loop-cell.invariant.1
          c.history_of-history.ensures.kept,
    )
