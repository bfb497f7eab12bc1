-- What stands behind a desk's lock, as contracts see it.
use Rattle.std.specs.Prelude.{ℕ}
use Rattle.node_cells.specs.Cells.{Cell}

-- the cell, and how many entries all passes made
pub record Guarded (K : Type 0) : Type 0 where
  pub cell : Cell K
  pub made : ℕ
