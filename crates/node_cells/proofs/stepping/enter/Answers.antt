use Rattle.std.proofs.Common.{sym, subst}
use Rattle.stored_nodes.specs.Keepers.{keeper_of}
use Rattle.node_cells.specs.Cells.{IsNotDone}
use Rattle.node_cells.specs.declared.fault.CellFault.{CellFault}
use Rattle.node_cells.proofs.Entering.{not_done}
use Rattle.node_cells.proofs.stepping.enter.Goals as goal

pub returns-in-Err-step-clause-err : goal.returns-in-Err-step-clause-err
returns-in-Err-step-clause-err g c =
    let keeper = keeper_of g.K.Keep.content g.K.Keep.is_honest g.K.Keep.refusals g.K.Keep.may_leave in
    let history = c.args.history.now.items in
    subst (λ (f : CellFault). IsNotDone keeper c.args.stored.now history c.args.event f c.step.new.stored) (sym c.cell_fault.ensures)
    (not_done keeper c.args.stored.now c.step.new.stored history c.args.event c.in-Err-step.fault c.in-Err-step.ensures.err)
