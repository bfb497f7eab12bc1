use Rattle.operator_laws.proofs.results.Carrying as topic
use Rattle.operator_laws.proofs.laws.accepted_is_open_or_settled.Goals as goal

pub returns : goal.returns
returns c = topic.accepted_is_open_or_settled
