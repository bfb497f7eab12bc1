-- What an event makes of a node, and what is entered of it.
use Rattle.std.specs.Prelude.{◌≡◌, ◌≢◌, ◌↔◌, List, [], ◌∷◌, ◌++◌, Option, None, Some, Bool, IsTrue}
use Rattle.ocpi_types.specs.declared.node_events.NodeEventKind.{NodeEventKind}
use Rattle.ocpi_types.specs.declared.node_events.NodeEventKind.TheVariants as event
use Rattle.ocpi_types.specs.declared.packet.Packet.{Packet}
use Rattle.node_steps.specs.declared.fault.NodeFault.{NodeFault}
use Rattle.node_steps.specs.declared.fault.NodeFault.TheVariants.{Memory}
use Rattle.world_steps.specs.Network.{Input}
use Rattle.world_steps.specs.Steps.{NodeRefuses, changes_of}
use Rattle.world_steps.specs.World.{NodeState}
use Rattle.histories.specs.declared.entry.Entry.{Entry}
use Rattle.history_laws.specs.Replays.{Brings, Does, EntryStep, Idle}
use Rattle.node_replay.specs.declared.outcome.ReplayFault.{ReplayFault}
use Rattle.node_replay.specs.declared.outcome.ReplayFault.TheVariants as fault
use Rattle.node_replay.specs.declared.stepping.Done.{Done}
use Rattle.node_replay.specs.declared.outcome.Replayed.{Replayed}
use Rattle.node_replay.specs.declared.outcome.Replayed.TheVariants.{Skipped, Stepped}

-- ---- what an event comes to

-- some row is changed by the step of an entry
abbrev pub ChangesRows : {s : NodeState} {e : Entry} {t : NodeState} → EntryStep s e t → Type 0
ChangesRows (Does x did) = changes_of x ≢ []
ChangesRows (Idle idle) = ⊥

-- the event is none of the node's role
pub record Passes (s : NodeState) (k : NodeEventKind) : Type 0 where
  pub taken : k ≢ event.Refused
  pub nothing : (x : Input) → Brings s k x → ⊥

-- An entry leads from one state to the other, and whether a row changes by it. Its event is one of the node's role, or
-- its storing was refused.
pub record Leads (s : NodeState) (k : NodeEventKind) (packets : List Packet) (changed : Bool) (t : NodeState) : Type 0 where
  pub own : Passes s k → ⊥
  pub step : EntryStep s (record { event = k; packets = packets }) t
  pub tells : IsTrue changed ↔ ChangesRows step

-- the node refuses the event for that reason, which is not want of memory
pub record Refuses (s : NodeState) (k : NodeEventKind) (why : NodeFault) : Type 0 where
  pub input : Input
  pub brings : Brings s k input
  pub refuses : NodeRefuses s input why
  pub other : why ≢ Memory

-- ---- what becomes of a node

-- a node starts again, which sends nothing
abbrev pub restart_entry : Entry
restart_entry = record { event = event.Restart; packets = [] }

-- why an event is not entered
abbrev pub Fails : NodeState → NodeEventKind → ReplayFault → Type 0
Fails s k (fault.Core why) = Refuses s k why
Fails s k fault.Memory = Unit {0}

-- ---- within an event

-- what a node does of an event, if anything
abbrev pub IsStep : NodeState → NodeEventKind → Option Done → NodeState → Type 0
IsStep s k None t = Passes s k × (t ≡ s)
IsStep s k (Some d) t = Leads s k d.packets d.changed t

-- and what that adds to its entries
abbrev pub Adds : NodeState → List Entry → NodeEventKind → Replayed → NodeState → List Entry → Type 0
Adds s before k Skipped t after = Passes s k × (t ≡ s) × (after ≡ before)
Adds s before k (Stepped changed) t after =
    (packets : List Packet) × Leads s k packets changed t × (after ≡ before ++ record { event = k; packets = packets } ∷ [])
