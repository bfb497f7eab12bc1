-- What an event brings to a node.
use Rattle.std.specs.Prelude.{◌≢◌}
use Rattle.ocpi_types.specs.declared.node_events.NodeEventKind.{NodeEventKind}
use Rattle.ocpi_types.specs.declared.node_events.NodeEventKind.TheVariants as event
use Rattle.world_steps.specs.Network.{Input}
use Rattle.world_steps.specs.World.{NodeState}
use Rattle.history_laws.specs.Replays.{Brings}
use Rattle.node_core.specs.Inputs.{Gets}
use Rattle.node_core.specs.declared.input.NodeInput.{NodeInput}

-- what a node gets is what the event brings, and its storing was not refused
pub record SaysTheSame (i : NodeInput) (k : NodeEventKind) : Type 0 where
  pub taken : k ≢ event.Refused
  pub brings : (n : NodeState) (x : Input) → Gets n i x → Brings n k x
  pub gets : (n : NodeState) (x : Input) → Brings n k x → Gets n i x
