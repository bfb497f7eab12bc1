use Rattle.std.proofs.Common.{subst, sym}
use Rattle.stored_nodes.proofs.InMemory.{carried}
use Rattle.stored_nodes.proofs.transaction.Transaction.step.Goals as goal
use Rattle.stored_nodes.specs.Keepers.{keeper_of}
use Rattle.stored_nodes.specs.Transactions.{Pending}
use Rattle.node_core.specs.States.{state_of}
use Rattle.node_core.specs.Works.{IsWork}
use Rattle.node_core.specs.declared.input.NodeInput.{NodeInput}

pub invariant_of-self : goal.invariant_of-self
invariant_of-self g c =
    let old : Pending g.row.K.Denot = record { state = state_of c.self.inside.node; keep = c.self.inside.keep; changes = c.self.inside.changes.items } in
    let work = subst (λ (p : Pending g.row.K.Denot). (i : NodeInput) × IsWork p.state i c.args.work) (sym c.self.view_is) c.requires in
    carried (keeper_of g.K.Keep.content g.K.Keep.is_honest g.K.Keep.refusals g.K.Keep.may_leave) old work.0 c.args.work c.carry_out.result (state_of c.carry_out.new.node) c.carry_out.new.changes.items
    c.self.invariant work.1 c.carry_out.ensures.state c.carry_out.ensures.ok c.carry_out.ensures.same c.carry_out.ensures.kept
