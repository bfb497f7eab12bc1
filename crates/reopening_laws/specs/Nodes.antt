-- The same of a node of either role: that it is made of its rows under another setup is an event of it in a network.
use Rattle.std.specs.Prelude.{◌≡◌, List, []}
use Rattle.network_laws.specs.Setups.{OfOperator, OfProvider, Setup}
use Rattle.network_laws.specs.Steps.{NodeHappens}
use Rattle.node_core.specs.Members.{IsMadeOfRows, line_of, peers_of}
use Rattle.ocpi_types.specs.declared.rows.Row.{Row}
use Rattle.ocpi_types.specs.declared.setup.Node.{Node}
use Rattle.ocpi_types.specs.declared.setup.Node.TheVariants as node
use Rattle.operator_steps.specs.Events as operator
use Rattle.provider_steps.specs.Events as provider
use Rattle.stored_laws.specs.Nodes.{AreNodeRows, CanStartAgain}
use Rattle.world_steps.specs.Steps.{AtOperator, AtProvider, NodeEvent, NodeStep}
use Rattle.world_steps.specs.World.{NodeState, Operates, Provides, opening_of}

-- what a member of a setup is set up with: itself, and all of the other role
abbrev pub setup_of : List Node → Node → Setup
setup_of setup (node.Operator party site) = OfOperator (line_of setup party site)
setup_of setup (node.Provider party) = OfProvider (peers_of setup party)

-- it starts as that member of a setup, which changes no row and sends nothing
abbrev pub start_of : List Node → Node → NodeEvent
start_of setup (node.Operator party site) = AtOperator (record { input = operator.Reopens (line_of setup party site); changes = []; packets = [] })
start_of setup (node.Provider party) = AtProvider (record { input = provider.Reopens (peers_of setup party); changes = []; packets = [] })

-- the second member has the party, spelled so, and the role of the first
abbrev pub IsAlike : Node → Node → Type 0
IsAlike (node.Operator party site) (node.Operator other place) = other ≡ party
IsAlike (node.Provider party) (node.Provider other) = other ≡ party
IsAlike (node.Operator party site) (node.Provider other) = ⊥
IsAlike (node.Provider party) (node.Operator other place) = ⊥

-- the state is of a node of the member's party and role
abbrev pub IsNodeOf : Node → NodeState → Type 0
IsNodeOf (node.Operator party site) (Operates s) = s.party ≡ party
IsNodeOf (node.Operator party site) (Provides s) = ⊥
IsNodeOf (node.Provider party) (Operates s) = ⊥
IsNodeOf (node.Provider party) (Provides s) = s.party ≡ party

-- What `from_rows` makes of the rows of a node as a member of another setup, of the same party and role, is that node as
-- it starts again under that setup.
abbrev pub NodesReopen : Type 0
NodesReopen = (setup : List Node) (member other : Node) (now next : NodeState) (rows : List Row) → IsAlike member other → AreNodeRows rows now → IsMadeOfRows setup other rows next →
    CanStartAgain now → CanStartAgain next → IsNodeOf member now → NodeHappens now (start_of setup other) next × IsNodeOf member next

-- The state stays of its party and role, whatever it does; and each opening is so.
pub record NodesStay : Type 0 where
  pub at_first : (setup : List Node) (member : Node) → IsNodeOf member (opening_of setup member)
  pub by_steps : (member : Node) (s : NodeState) (x : NodeEvent) (t : NodeState) → NodeStep s x t → IsNodeOf member s → IsNodeOf member t
