-- Whether a content holds the rows of a node does not depend on the number of a line.
use Rattle.std.proofs.Common.{ℕ, Option, sym, ◌∙◌}
use Rattle.node_store.specs.Contents.{Content, marked}
use Rattle.node_store.proofs.Numbered.{rows_marked}
use Rattle.world_steps.specs.World.{NodeState}
use Rattle.node_rows.specs.Holds.{HoldsRows}
use Rattle.node_rows.specs.Laws.{NumbersAreApart}

numbered : (c : Content) (n : NodeState) (m : Option ℕ) → HoldsRows c n → HoldsRows (marked m c) n
numbered c n m held = let (rows, is, are) = held in (rows, rows_marked c m ∙ is, are)

without : (c : Content) (n : NodeState) (m : Option ℕ) → HoldsRows (marked m c) n → HoldsRows c n
without c n m held = let (rows, is, are) = held in (rows, sym (rows_marked c m) ∙ is, are)

pub numbers_are_apart : NumbersAreApart
numbers_are_apart = record { numbered = numbered; without = without }
