use Rattle.operator_laws.proofs.reservations.Marks as topic
use Rattle.operator_laws.proofs.laws.cancellations_are_marked.Goals as goal

pub returns : goal.returns
returns c = topic.cancellations_are_marked
