use Rattle.operator_laws.proofs.reservations.Making as topic
use Rattle.operator_laws.proofs.laws.opened_commands_came.Goals as goal

pub returns : goal.returns
returns c = topic.opened_commands_came
