use Rattle.stored_nodes.proofs.Staying.{opens}
use Rattle.stored_nodes.proofs.stored_node.StoredNode.open.Goals as goal
use Rattle.stored_nodes.specs.Keepers.{keeper_of}
use Rattle.node_core.specs.States.{state_of}

pub invariant_of-result : goal.invariant_of-result
invariant_of-result g c =
    opens (keeper_of g.K.Keep.content g.K.Keep.is_honest g.K.Keep.refusals g.K.Keep.may_leave) c.args.nodes.now c.requires.setup c.args.member.now c.requires.member (state_of c.in-Ok.node) c.in-Ok.ensures
    c.args.keep c.requires.empty c.requires.settled
