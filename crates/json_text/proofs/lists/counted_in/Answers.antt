use Rattle.std.proofs.Common.{inl, inr}
use Rattle.json_text.proofs.Listing.{enough, too_few, too_many}
use Rattle.json_text.proofs.lists.counted_in.Goals as goal

pub returns-then-items-most-clause-exact : goal.returns-then-items-most-clause-exact
returns-then-items-most-clause-exact c = enough _ _ _ _ _ c.in_ok-items.ensures c.if-least-items.true c.if-items-most.true

pub returns-else-least-items-clause-exact : goal.returns-else-least-items-clause-exact
returns-else-least-items-clause-exact c = elim c.else-least-items.either [
  | inl w ↦ too_many _ _ _ _ _ c.in_ok-items.ensures w.1
  | inr w ↦ too_few _ _ _ _ _ c.in_ok-items.ensures w
]
