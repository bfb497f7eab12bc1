-- A node has one answer to an event.
use Rattle.std.specs.Prelude.{⊤}
use Rattle.ocpi_types.specs.declared.node_events.NodeEventKind.{NodeEventKind}
use Rattle.ocpi_types.specs.declared.setup.Node.{Node}
use Rattle.ocpi_types.specs.declared.setup.Node.TheVariants as node
use Rattle.answer_laws.specs.Nodes.{IsApart, PlacesDiffer}
use Rattle.node_replay.specs.Answers.{HasOneAnswer}
use Rattle.stored_laws.specs.Nodes.{IsSound}
use Rattle.world_steps.specs.World.{NodeState}

-- a sound node has one answer to an event
abbrev pub NodesHaveOneAnswer : Type 0
NodesHaveOneAnswer = (s : NodeState) (k : NodeEventKind) → IsSound s → IsApart s → HasOneAnswer s k

-- the places of a node's site, if it has one, have different ids
abbrev pub HasPlaces : Node → Type 0
HasPlaces (node.Operator party site) = PlacesDiffer site
HasPlaces (node.Provider party) = ⊤
