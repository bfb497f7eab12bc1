use Rattle.node_core.proofs.Doing.{are_apart, are_changes}
use Rattle.node_core.proofs.laws.work_changes_rows.Goals as goal

pub returns : goal.returns
returns c = λ n x sound may. (are_apart n x may, are_changes n x sound may)
