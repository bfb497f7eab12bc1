use Rattle.operator_laws.proofs.standing.AtAllTimes as topic
use Rattle.operator_laws.proofs.laws.carried_references_are_spent.Goals as goal

pub returns : goal.returns
returns c = topic.carried_references_are_spent
