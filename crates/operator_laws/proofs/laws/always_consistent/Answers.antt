use Rattle.operator_laws.proofs.standing.AtAllTimes as topic
use Rattle.operator_laws.proofs.laws.always_consistent.Goals as goal

pub returns : goal.returns
returns c = topic.always_consistent
