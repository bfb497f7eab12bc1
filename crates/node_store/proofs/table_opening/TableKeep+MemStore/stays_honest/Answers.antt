use Rattle.sqlite.proofs.Callers.{memory_is_clean}
use Rattle.node_store.proofs.table_opening.TableKeep+MemStore.stays_honest.Goals as goal

pub returns : goal.returns
returns c = memory_is_clean c.args.self.now.0.conn
