use Rattle.operator_laws.proofs.standing.AtAllTimes as topic
use Rattle.operator_laws.proofs.laws.marks_never_fall.Goals as goal

pub returns : goal.returns
returns c = topic.marks_never_fall
