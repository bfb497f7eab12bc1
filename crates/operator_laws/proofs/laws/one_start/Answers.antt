use Rattle.operator_laws.proofs.references.OneStart as topic
use Rattle.operator_laws.proofs.laws.one_start.Goals as goal

pub returns : goal.returns
returns c = topic.one_start
