-- Which node of a setup a cell is of, and how it began.
use Rattle.std.specs.Prelude.{◌≡◌, List, Contains}
use Rattle.node_cells.specs.Cells.{Cell}
use Rattle.ocpi_types.specs.Setups.{party_of}
use Rattle.ocpi_types.specs.declared.setup.Node.{Node}
use Rattle.world_steps.specs.World.{opening_of}

-- the cell has the party of that node, as the setup spells it, and began as the setup opens that node
pub record IsOpenedAs {K : Type 0} (setup : List Node) (member : Node) (c : Cell K) : Type 0 where
  pub party : c.party ≡ party_of member
  pub first : c.first ≡ opening_of setup member

-- the cell is of a node of the setup
pub record IsOfSetup {K : Type 0} (setup : List Node) (c : Cell K) : Type 0 where
  pub member : Node
  pub among : Contains setup member
  pub opened : IsOpenedAs setup member c
