use Rattle.weave.proofs.Telling.{order_of}
use Rattle.weave.proofs.woven_turns.Goals as goal

pub returns-in-Ok-clause-order : goal.returns-in-Ok-clause-order
returns-in-Ok-clause-order c = order_of c.args.histories.now c.requires.numbered c.in-Ok.turns.items c.in-Ok.ensures.order

pub weave_turns_with-requires-clause-numbered : goal.weave_turns_with-requires-clause-numbered
weave_turns_with-requires-clause-numbered c = λ h i. (c.requires.numbered h i).1
