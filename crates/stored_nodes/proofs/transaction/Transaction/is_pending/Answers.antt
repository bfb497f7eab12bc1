use Rattle.stored_nodes.proofs.transaction.Transaction.is_pending.Goals as goal

pub returns : goal.returns
returns g c = rw (← c.self.view_is) c.self.invariant
