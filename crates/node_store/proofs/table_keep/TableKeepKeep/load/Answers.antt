use Rattle.node_store.proofs.table_keep.TableKeepKeep.load.Goals as goal

pub returns-in-Ok-clause-stops : goal.returns-in-Ok-clause-stops
returns-in-Ok-clause-stops g c = rw (← c.self.view_is) c.load.ensures.stops

pub returns-in-Err-clause-stops : goal.returns-in-Err-clause-stops
returns-in-Err-clause-stops g c = rw (c.tell.ensures.same.1, ← c.self.view_is) c.load.ensures.stops
