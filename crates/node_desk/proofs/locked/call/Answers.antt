use Rattle.std.proofs.Common.{◌<◌, ◌≤◌, List, length, subst}
use Rattle.histories.specs.declared.entry.Entry.{Entry}
use Rattle.stored_nodes.specs.Keepers.{keeper_of}
use Rattle.node_desk.proofs.Going.{refused_call}
use Rattle.node_desk.proofs.locked.call.Goals as goal
use Rattle.node_cells.specs.Cells.{most_entries}

pub returns-clause-refused : goal.returns-clause-refused
returns-clause-refused g c =
    let few = subst (λ (l : List Entry). length l < most_entries) c.history-place.ensures c.if-place-ge-MOST_ENTRIES.false in
    let behind = subst (λ (l : List Entry). c.args.seen ≤ length l) c.history-place.ensures c.if-place-seen.false in
    refused_call (keeper_of g.K.Keep.content g.K.Keep.is_honest g.K.Keep.refusals g.K.Keep.may_leave) c.args.cell.now c.enter.new.cell c.args.seen c.args.event c.enter.result few behind c.enter.ensures.refused
