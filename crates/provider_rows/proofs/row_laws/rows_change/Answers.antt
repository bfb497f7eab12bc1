use Rattle.provider_rows.proofs.RowChanges.{row_changes}
use Rattle.provider_rows.proofs.row_laws.rows_change.Goals as goal

pub returns : goal.returns
returns c = λ s changes apart may. row_changes changes s apart may
