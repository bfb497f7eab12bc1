use Rattle.std.proofs.Common.{subst}
use Rattle.stored_nodes.specs.Keepers.{keeper_of}
use Rattle.node_cells.proofs.Entering.{entered, goes_on, not_entered}
use Rattle.node_cells.proofs.cell.NodeCell.apply.Goals as goal

pub invariant_of-self : goal.invariant_of-self
invariant_of-self g c = (
  goes_on (keeper_of g.K.Keep.content g.K.Keep.is_honest g.K.Keep.refusals g.K.Keep.may_leave) c.changes_are_held.ensures c.nodes_can_start_again.ensures c.self.inside.party c.self.inside.first.items
      c.self.inside.history.items c.enter-entered.new.history.items c.self.inside.is_fresh c.self.inside.stored c.enter-entered.new.stored c.args.event c.enter-entered.result c.self.invariant.1 c.self.invariant.0 c.is_stored.ensures
      c.enter-entered.ensures.ok c.enter-entered.ensures.err c.enter-entered.ensures.same,
  c.self.invariant.1,
)

pub returns-clause-ok : goal.returns-clause-ok
returns-clause-ok g c =
    rw (← c.self.view_is) (entered (keeper_of g.K.Keep.content g.K.Keep.is_honest g.K.Keep.refusals g.K.Keep.may_leave) c.self.inside.party c.self.inside.first.items c.self.inside.history.items
    c.enter-entered.new.history.items c.self.inside.is_fresh c.self.inside.stored c.enter-entered.new.stored c.args.event c.enter-entered.result c.self.invariant.1 c.enter-entered.ensures.ok)

pub returns-clause-err : goal.returns-clause-err
returns-clause-err g c =
    rw (← c.self.view_is) (not_entered (keeper_of g.K.Keep.content g.K.Keep.is_honest g.K.Keep.refusals g.K.Keep.may_leave) c.self.inside.party c.self.inside.first.items c.self.inside.history.items
    c.enter-entered.new.history.items c.self.inside.is_fresh c.self.inside.stored c.enter-entered.new.stored c.args.event c.enter-entered.result c.self.invariant.1 c.enter-entered.ensures.err c.enter-entered.ensures.same)
