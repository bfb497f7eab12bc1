use Rattle.node_store.proofs.MovedRows.{opening_keeps_rows}
use Rattle.node_store.proofs.laws.opening_keeps_rows.Goals as goal

pub returns : goal.returns
returns c = opening_keeps_rows
