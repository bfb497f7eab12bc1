use Rattle.operator_laws.proofs.standing.AtAllTimes as topic
use Rattle.operator_laws.proofs.laws.references_have_one_carrier.Goals as goal

pub returns : goal.returns
returns c = topic.references_have_one_carrier
