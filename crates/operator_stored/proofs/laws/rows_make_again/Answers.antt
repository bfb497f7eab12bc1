use Rattle.operator_stored.proofs.BadRows.{make_again}
use Rattle.operator_stored.proofs.laws.rows_make_again.Goals as goal

pub returns : goal.returns
returns c = make_again
