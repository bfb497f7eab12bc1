use Rattle.std.proofs.Common.{◌∙◌, rules, sym}
use Rattle.sorted_lists.proofs.Parts.{front_swept, sorted_behind}
use Rattle.sorted_lists.proofs.slots.sweep_front.Goals as goal

pub loop-first-preserved-else-stands-2 : goal.loop-first-preserved-else-stands-2
loop-first-preserved-else-stands-2 g c = rw c.pop_front.ensures.rest (
  sorted_behind g.K.Ord.cmp c.loop-first.slots.items c.loop-first.invariant.0,
  front_swept c.loop-first.slots.items c.in-Some.first.now (search rules) (sym c.stands.ensures ∙ c.if-stands.false) ∙ c.loop-first.invariant.1,
)
