-- What an event brings to a node, and what the node's work leaves of its place.
use Rattle.std.specs.Prelude.{◌≡◌, ◌≢◌, ℕ, List, ◌++◌}
use Rattle.node_core.specs.Inputs.{Gets}
use Rattle.node_core.specs.Works.{IsWork, node_after, packets_by, versions_by}
use Rattle.node_core.specs.declared.input.NodeInput.{NodeInput}
use Rattle.node_core.specs.declared.work.NodeWork.{NodeWork}
use Rattle.node_steps.specs.declared.fault.NodeFault.{NodeFault}
use Rattle.node_steps.specs.declared.fault.NodeFault.TheVariants.{Memory}
use Rattle.ocpi_types.specs.declared.events.EventKind.{EventKind}
use Rattle.ocpi_types.specs.declared.events.EventKind.TheVariants as kind
use Rattle.world.specs.declared.planned.Outcome.{Outcome}
use Rattle.world.specs.declared.planned.Outcome.TheVariants as outcome
use Rattle.world.specs.declared.planned.EventPlan.{EventPlan}
use Rattle.world.specs.declared.planned.EventPlan.TheVariants.{Acts, Idle}
use Rattle.world_steps.specs.Network.{Input, Reaches}
use Rattle.world_steps.specs.Steps.{NodeRefuses}
use Rattle.world_steps.specs.World.{NodeState, Place, World}

-- the place once the work is done
abbrev pub place_after : NodeWork → Place → Place
place_after x p = record { party = p.party; node = node_after x p.node; sent = p.sent ++ packets_by x; versions = p.versions ++ versions_by x }

-- the event brings this to the node of that party, of either role: what the node gets of it reaches it, and where it
-- gets nothing, nothing reaches it
pub record Brings (w : World) (party : List ℕ) (k : EventKind) (i : NodeInput) : Type 0 where
  pub reaches : (n : NodeState) (x : Input) → Gets n i x → Reaches w party n k x
  pub nothing : (n : NodeState) → ((x : Input) → Gets n i x → ⊥) → (x : Input) → Reaches w party n k x → ⊥

-- nothing reaches a node of either role by it
abbrev pub BringsNothing : World → List ℕ → EventKind → Type 0
BringsNothing w party k = (n : NodeState) (x : Input) → Reaches w party n k x → ⊥

-- the work is what the event asks the node of that party for
pub record AsksFor (w : World) (party : List ℕ) (n : NodeState) (k : EventKind) (x : NodeWork) : Type 0 where
  pub input : NodeInput
  pub brings : Brings w party k input
  pub is_work : IsWork n input x

-- the node refuses the event, for a reason that is not want of memory
pub record Refuses (w : World) (party : List ℕ) (n : NodeState) (k : EventKind) (fault : NodeFault) : Type 0 where
  pub input : Input
  pub reaches : Reaches w party n k input
  pub refuses : NodeRefuses n input fault
  pub other : fault ≢ Memory

-- nothing reaches the node
pub record Passes (w : World) (party : List ℕ) (n : NodeState) (k : EventKind) : Type 0 where
  pub taken : k ≢ kind.Refused
  pub nothing : (x : Input) → Reaches w party n k x → ⊥

-- the event leads to no work, for this reason
abbrev pub IsIdle : World → List ℕ → NodeState → EventKind → Outcome → Type 0
IsIdle w party n k outcome.Stepped = k ≡ kind.Refused
IsIdle w party n k outcome.Skipped = Passes w party n k
IsIdle w party n k (outcome.Refused fault) = Refuses w party n k fault

abbrev pub IsPlanned : World → List ℕ → NodeState → EventKind → EventPlan → Type 0
IsPlanned w party n k (Idle o) = IsIdle w party n k o
IsPlanned w party n k (Acts x) = AsksFor w party n k x
