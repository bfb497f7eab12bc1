use Rattle.operator_laws.proofs.reservations.Marks as topic
use Rattle.operator_laws.proofs.laws.reservations_are_newer.Goals as goal

pub returns : goal.returns
returns c = topic.reservations_are_newer
