use Rattle.node_store.proofs.Numbered.{numbers_are_no_rows}
use Rattle.node_store.proofs.laws.numbers_are_no_rows.Goals as goal

pub returns : goal.returns
returns c = numbers_are_no_rows
