use Rattle.node_rows.proofs.Numbers.{numbers_are_apart}
use Rattle.node_rows.proofs.laws.numbers_are_apart.Goals as goal

pub returns : goal.returns
returns c = numbers_are_apart
