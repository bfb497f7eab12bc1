use Rattle.stored_nodes.proofs.Staying.{reopens}
use Rattle.stored_nodes.proofs.stored_node.StoredNode.reopen.Goals as goal
use Rattle.stored_nodes.specs.Keepers.{keeper_of}
use Rattle.node_core.specs.States.{state_of}

pub invariant_of-result : goal.invariant_of-result
invariant_of-result g c =
    reopens (keeper_of g.K.Keep.content g.K.Keep.is_honest g.K.Keep.refusals g.K.Keep.may_leave) c.args.nodes.now c.args.member.now c.in-Ok.kept.rows.items c.in-Ok.kept.line (state_of c.in-Ok-from_rows.node) c.args.keep c.load.new.self
    c.is_sound.ensures c.in-Ok-from_rows.ensures.made c.requires.settled c.in-Ok.ensures.rows c.in-Ok.ensures.line c.load.ensures.kept c.load.ensures.honest c.load.ensures.stops
