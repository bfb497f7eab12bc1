use Rattle.operator_stored.proofs.BadRows.{bad_of_none}
use Rattle.operator_stored.proofs.laws.bad_rows_are_of_none.Goals as goal

pub returns : goal.returns
returns c = bad_of_none
