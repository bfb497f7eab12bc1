use Rattle.operator_laws.proofs.reservations.Making as topic
use Rattle.operator_laws.proofs.laws.open_commands_came.Goals as goal

pub returns : goal.returns
returns c = topic.open_commands_came
