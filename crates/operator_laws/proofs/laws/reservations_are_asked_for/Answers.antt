use Rattle.operator_laws.proofs.reservations.Making as topic
use Rattle.operator_laws.proofs.laws.reservations_are_asked_for.Goals as goal

pub returns : goal.returns
returns c = topic.reservations_are_asked_for
