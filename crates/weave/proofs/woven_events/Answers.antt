use Rattle.std.proofs.Common.{sym, subst}
use Rattle.weave.specs.Turns.{IsOrder}
use Rattle.weave.proofs.Telling.{order_of}
use Rattle.weave.proofs.woven_events.Goals as goal

pub events_of-requires : goal.events_of-requires
events_of-requires c = subst (IsOrder c.args.histories.now) (sym c.deref.ensures.value) (order_of c.args.histories.now c.requires.numbered c.in-Ok.turns.items c.in-Ok.ensures.order)

pub weave_turns_with-requires-clause-numbered : goal.weave_turns_with-requires-clause-numbered
weave_turns_with-requires-clause-numbered c = λ h i. (c.requires.numbered h i).1
