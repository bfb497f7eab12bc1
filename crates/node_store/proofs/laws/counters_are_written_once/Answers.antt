use Rattle.node_store.proofs.Written.{counters_are_written_once}
use Rattle.node_store.proofs.laws.counters_are_written_once.Goals as goal

pub returns : goal.returns
returns c = counters_are_written_once
