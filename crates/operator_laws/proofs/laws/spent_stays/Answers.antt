use Rattle.operator_laws.proofs.standing.AtAllTimes as topic
use Rattle.operator_laws.proofs.laws.spent_stays.Goals as goal

pub returns : goal.returns
returns c = topic.spent_stays_law
