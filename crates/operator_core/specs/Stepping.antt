-- What a step answers, with the state after it.
use Rattle.node_steps.specs.declared.plan.Stepped.{Stepped}
use Rattle.operator_rows.specs.State.{State}
use Rattle.operator_steps.specs.Moves.{Out}

abbrev pub out_of : State → Stepped → Out
out_of s x = record { state = s; changes = x.rows.items; packets = x.packets.items }
