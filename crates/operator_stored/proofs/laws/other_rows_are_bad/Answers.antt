use Rattle.operator_stored.proofs.OtherRows.{others_bad}
use Rattle.operator_stored.proofs.laws.other_rows_are_bad.Goals as goal

pub returns : goal.returns
returns c = others_bad
