use Rattle.operator_rows.proofs.RowChanges.{row_changes}
use Rattle.operator_rows.proofs.row_laws.rows_change.Goals as goal

pub returns : goal.returns
returns c = λ s changes sound apart may. row_changes changes s sound apart may
