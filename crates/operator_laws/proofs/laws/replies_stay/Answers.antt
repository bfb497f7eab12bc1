use Rattle.operator_laws.proofs.standing.AtAllTimes as topic
use Rattle.operator_laws.proofs.laws.replies_stay.Goals as goal

pub returns : goal.returns
returns c = topic.replies_stay
