use Rattle.stored_nodes.proofs.Together.{begun}
use Rattle.stored_nodes.proofs.stored_node.StoredNode.begin.Goals as goal
use Rattle.stored_nodes.specs.Keepers.{keeper_of}
use Rattle.node_core.specs.States.{state_of}

pub invariant_of-result : goal.invariant_of-result
invariant_of-result g c =
    begun (keeper_of g.K.Keep.content g.K.Keep.is_honest g.K.Keep.refusals g.K.Keep.may_leave) (record { state = state_of c.self.inside.node; keep = c.self.inside.keep }) c.new.result.items c.new.ensures.items
    c.self.invariant
