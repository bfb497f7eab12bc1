use Rattle.operator_tables.proofs.Lines.{all_tell}
use Rattle.operator_tables.proofs.laws.decisions_tell.Goals as goal

pub returns : goal.returns
returns c = all_tell
