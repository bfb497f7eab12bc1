-- What a node is to do, and what it leaves.
use Rattle.std.specs.Prelude.{◌≡◌, ◌≢◌, ℕ, List, [], Result, Ok, Err, ⊤}
use Rattle.node_core.specs.Inputs.{Gets, OperatorGets, ProviderGets}
use Rattle.node_core.specs.States.{AreNodeChanges}
use Rattle.node_core.specs.declared.input.NodeInput.{NodeInput}
use Rattle.node_core.specs.declared.input.NodeInput.TheVariants as input
use Rattle.node_core.specs.declared.node.Node.{Node}
use Rattle.node_core.specs.declared.node.Node.TheVariants as node
use Rattle.node_core.specs.declared.work.NodeWork.{NodeWork}
use Rattle.node_core.specs.declared.work.NodeWork.TheVariants as work
use Rattle.node_core.specs.declared.work.NodePlan.{NodePlan}
use Rattle.node_core.specs.declared.work.NodePlan.TheVariants.{Acts, Refused, Skipped}
use Rattle.node_steps.specs.Drafts.{step_of}
use Rattle.node_steps.specs.declared.fault.NodeFault.{NodeFault}
use Rattle.node_steps.specs.declared.fault.NodeFault.TheVariants.{Memory}
use Rattle.node_steps.specs.declared.plan.Plan.{Plan}
use Rattle.ocpi_types.specs.declared.packet.Packet.{Packet}
use Rattle.ocpi_types.specs.declared.rows.Change.{Change}
use Rattle.operator_rows.specs.FullSteps.{full_step_of}
use Rattle.operator_rows.specs.State as operator_state
use Rattle.operator_rows.specs.Steps as operator_rows
use Rattle.operator_rows.specs.declared.full_plan.FullPlan.{FullPlan}
use Rattle.operator_steps.specs.Events as operator
use Rattle.operator_steps.specs.Moves as operator_moves
use Rattle.provider_rows.specs.State as provider_state
use Rattle.provider_rows.specs.Steps as provider_rows
use Rattle.provider_steps.specs.Events as provider
use Rattle.provider_steps.specs.Moves as provider_moves
use Rattle.stored_laws.specs.Nodes.{restarted}
use Rattle.world_steps.specs.Network.{Input}
use Rattle.world_steps.specs.Steps.{NodeEvent, NodeRefuses, NodeStep, changes_of, input_of, packets_of, versions_of, all_put}
use Rattle.world_steps.specs.World.{NodeState, Operates, Provides}
use Rattle.ocpi_types.specs.declared.sessions.Session.{Session}

-- the node once the work is done
abbrev pub node_after : NodeWork → NodeState → NodeState
node_after (work.Operator x) (Operates s) = Operates (operator_rows.after_full (full_step_of x) s)
node_after (work.Operator x) (Provides s) = Provides s
node_after (work.Provider x) (Operates s) = Operates s
node_after (work.Provider x) (Provides s) = Provides (provider_rows.after (step_of x) s)
node_after work.Restart n = restarted n

abbrev pub packets_by : NodeWork → List Packet
packets_by (work.Operator x) = x.plan.packets.items
packets_by (work.Provider x) = x.packets.items
packets_by work.Restart = []

abbrev pub changes_by : NodeWork → List Change
changes_by (work.Operator x) = x.plan.changes.items
changes_by (work.Provider x) = x.changes.items
changes_by work.Restart = []

-- the versions of its sessions that an operator stores by it
abbrev pub versions_by : NodeWork → List Session
versions_by (work.Operator x) = all_put x.plan.changes.items
versions_by (work.Provider x) = []
versions_by work.Restart = []

-- the node may do the work
abbrev pub MayDo : NodeState → NodeWork → Type 0
MayDo (Operates s) (work.Operator x) = operator_rows.MayFollowFull s (full_step_of x)
MayDo (Operates s) (work.Provider x) = ⊥
MayDo (Provides s) (work.Operator x) = ⊥
MayDo (Provides s) (work.Provider x) = provider_rows.MayFollow s (step_of x)
MayDo n work.Restart = ⊤

-- it takes no memory; the work of another role is never done, and wants none
abbrev pub HasRoomFor : Node → NodeWork → Type 0
HasRoomFor (node.Operator o) (work.Operator x) = operator_rows.HasFullRoomFor o (full_step_of x)
HasRoomFor (node.Operator o) (work.Provider x) = ⊤
HasRoomFor (node.Provider p) (work.Operator x) = ⊤
HasRoomFor (node.Provider p) (work.Provider x) = provider_rows.HasRoomFor p (step_of x)
HasRoomFor n work.Restart = ⊤

-- an operator plans all that it gets
pub record OperatorPlans (s : operator_state.State) (i : NodeInput) (x : FullPlan) : Type 0 where
  pub input : operator.Input
  pub gets : OperatorGets i input
  pub planned : operator_moves.PlannedBy (operator.Asks s input) s (full_step_of x)
  pub may : operator_rows.MayFollowFull s (full_step_of x)

-- and a provider
pub record ProviderPlans (s : provider_state.State) (i : NodeInput) (x : Plan) : Type 0 where
  pub input : provider.Input
  pub gets : ProviderGets i input
  pub planned : provider_moves.PlannedBy (provider.Asks s input) s (step_of x)
  pub may : provider_rows.MayFollow s (step_of x)

-- the work is what the node is asked for by what reaches it
abbrev pub IsWork : NodeState → NodeInput → NodeWork → Type 0
IsWork (Operates s) i (work.Operator x) = OperatorPlans s i x
IsWork (Operates s) i (work.Provider x) = ⊥
IsWork (Provides s) i (work.Operator x) = ⊥
IsWork (Provides s) i (work.Provider x) = ProviderPlans s i x
IsWork n i work.Restart = i ≡ input.Restart

-- nothing is got of it: it is not for a node of this role
abbrev pub Passes : NodeState → NodeInput → Type 0
Passes n i = (x : Input) → Gets n i x → ⊥

-- the node refuses it, for a reason that is not want of memory
pub record Refuses (n : NodeState) (i : NodeInput) (fault : NodeFault) : Type 0 where
  pub input : Input
  pub gets : Gets n i input
  pub refuses : NodeRefuses n input fault
  pub other : fault ≢ Memory

abbrev pub IsPlanned : NodeState → NodeInput → NodePlan → Type 0
IsPlanned n i Skipped = Passes n i
IsPlanned n i (Refused fault) = Refuses n i fault
IsPlanned n i (Acts x) = IsWork n i x

-- the work is a step of the node: what it does then
pub record Does (n : NodeState) (i : NodeInput) (x : NodeWork) : Type 0 where
  pub event : NodeEvent
  pub gets : Gets n i (input_of event)
  pub step : NodeStep n event (node_after x n)
  pub packets : packets_of event ≡ packets_by x
  pub changes : changes_of event ≡ changes_by x
  pub versions : versions_of event ≡ versions_by x

-- what comes of a plan of an operator, where memory does not run out
abbrev pub ComesOfFull : Result FullPlan NodeFault → NodePlan → Type 0
ComesOfFull (Ok x) planned = planned ≡ Acts (work.Operator x)
ComesOfFull (Err fault) planned = (planned ≡ Refused fault) × (fault ≢ Memory)

-- and of a provider
abbrev pub ComesOf : Result Plan NodeFault → NodePlan → Type 0
ComesOf (Ok x) planned = planned ≡ Acts (work.Provider x)
ComesOf (Err fault) planned = (planned ≡ Refused fault) × (fault ≢ Memory)
