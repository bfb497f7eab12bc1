-- What a node may answer to an event.
use Rattle.std.specs.Prelude.{◌≡◌, List, Bool}
use Rattle.ocpi_types.specs.declared.node_events.NodeEventKind.{NodeEventKind}
use Rattle.ocpi_types.specs.declared.packet.Packet.{Packet}
use Rattle.node_steps.specs.declared.fault.NodeFault.{NodeFault}
use Rattle.world_steps.specs.World.{NodeState}
use Rattle.node_replay.specs.Replayed.{Leads, Passes, Refuses}

-- an answer of a node to an event: packets, whether rows changed, and the node behind it; that the event is none of its
-- role; or a refusal
pub data NodeAnswer : Type 0 where
  Stepped : List Packet → Bool → NodeState → NodeAnswer
  PassedOver : NodeAnswer
  Declined : NodeFault → NodeAnswer

-- by the rules the node may answer so
abbrev pub MayAnswer : NodeState → NodeEventKind → NodeAnswer → Type 0
MayAnswer s k (Stepped packets changed t) = Leads s k packets changed t
MayAnswer s k PassedOver = Passes s k
MayAnswer s k (Declined why) = Refuses s k why

-- the rules leave the node one answer at most
abbrev pub HasOneAnswer : NodeState → NodeEventKind → Type 0
HasOneAnswer s k = (a b : NodeAnswer) → MayAnswer s k a → MayAnswer s k b → a ≡ b
