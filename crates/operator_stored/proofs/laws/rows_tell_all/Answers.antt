use Rattle.operator_stored.proofs.RowsTell.{rows_tell}
use Rattle.operator_stored.proofs.laws.rows_tell_all.Goals as goal

pub returns : goal.returns
returns c = rows_tell
