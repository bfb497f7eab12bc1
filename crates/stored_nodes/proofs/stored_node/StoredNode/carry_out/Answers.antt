use Rattle.std.proofs.Common.{subst, sym}
use Rattle.stored_nodes.proofs.Carrying.{carried}
use Rattle.stored_nodes.proofs.stored_node.StoredNode.carry_out.Goals as goal
use Rattle.stored_nodes.specs.Keepers.{keeper_of}
use Rattle.stored_nodes.specs.Stored.{Stored}
use Rattle.node_core.specs.States.{state_of}
use Rattle.node_core.specs.Works.{IsWork}
use Rattle.node_core.specs.declared.input.NodeInput.{NodeInput}

pub invariant_of-self : goal.invariant_of-self
invariant_of-self g c =
    let old : Stored g.row.K.Denot = record { state = state_of c.self.inside.node; keep = c.self.inside.keep } in
    let work = subst (λ (s : Stored g.row.K.Denot). (i : NodeInput) × IsWork s.state i c.args.work) (sym c.self.view_is) c.requires in
    carried (keeper_of g.K.Keep.content g.K.Keep.is_honest g.K.Keep.refusals g.K.Keep.may_leave) c.changes_are_held.ensures c.nodes_can_start_again.ensures c.restarts_are_held.ensures c.alike_are_classes.ensures c.args.line old work.0 c.args.work
    c.carry_out.result (state_of c.carry_out.new.node) c.carry_out.new.keep c.self.invariant work.1 c.carry_out.ensures.state c.carry_out.ensures.ok c.carry_out.ensures.same c.carry_out.ensures.err
