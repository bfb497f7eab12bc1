-- Of which nodes of a setup the nodes of a run are, and how they began.
use Rattle.std.specs.Prelude.{◌≡◌, ℕ, List, Some, slice_get}
use Rattle.cell_openings.specs.Opened.{IsOfSetup, IsOpenedAs}
use Rattle.node_harness.specs.declared.settling.NodeRan.{NodeRan}
use Rattle.ocpi_types.specs.declared.setup.Node.{Node}

-- the cell of a node that ran is of a node of the setup
abbrev pub RanOf : List Node → NodeRan → Type 0
RanOf setup n = IsOfSetup setup n.cell

-- the cell of each node is of that node of the setup which stands at its place
pub record AreOpened (setup : List Node) (nodes : List NodeRan) : Type 0 where
  pub each : (k : ℕ) (member : Node) (node : NodeRan) → slice_get setup k ≡ Some member → slice_get nodes k ≡ Some node → IsOpenedAs setup member node.cell
