-- Of which node of a setup a cell is that was just opened.
use Rattle.std.proofs.Common.{◌≡◌, List}
use Rattle.std.specs.Prelude.{Contains}
use Rattle.cell_openings.specs.Opened.{IsOfSetup, IsOpenedAs}
use Rattle.node_cells.specs.Cells.{Cell}
use Rattle.ocpi_types.specs.Setups.{party_of}
use Rattle.ocpi_types.specs.declared.setup.Node.{Node}
use Rattle.world_steps.specs.World.{opening_of}

-- it is of that node
pub opened_as : {K : Type 0} (setup : List Node) (member : Node) (c : Cell K) → c.party ≡ party_of member → c.first ≡ opening_of setup member → IsOpenedAs setup member c
opened_as setup member c party first = record { party = party; first = first }

-- and of a node of the setup
pub opened_there : {K : Type 0} (setup : List Node) (member : Node) (c : Cell K) → Contains setup member → c.party ≡ party_of member → c.first ≡ opening_of setup member → IsOfSetup setup c
opened_there setup member c among party first = record { member = member; among = among; opened = record { party = party; first = first } }
