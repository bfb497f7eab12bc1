use Rattle.std.proofs.Common.{◌≡◌, ◌++◌, []}
use Rattle.tables.specs.Queues.{due_front}
use Rattle.tables.proofs.queue.Table+tuple2+Moment+K+unit.push_due.Given as goal

abbrev pub invariant-loop-key : goal.invariant-loop-key
invariant-loop-key g l =
    (l.due.items ++ due_front l.at l.key-iterator ≡ l.initial.due.items ++ due_front l.at l.initial.key-iterator) × (due_front l.at l.initial.key-iterator ≡ [] → due_front l.at l.key-iterator ≡ [])
