use Rattle.stored_nodes.proofs.stored_node.StoredNode.is_stored.Goals as goal

pub returns : goal.returns
returns g c = rw (← c.self.view_is) c.self.invariant
