-- Several events that a node does in memory, and whose changes are committed together: what holds meanwhile, what each
-- event makes of it, and what is left where the commit is refused.
use Rattle.std.specs.Prelude.{◌≡◌, ◌≢◌, ◌⊎◌, ◌↔◌, ◌++◌, ℕ, List, [], Bool, false, Option, None, Some, IsTrue}
use Rattle.std.specs.List.{flat_map}
use Rattle.ocpi_types.specs.declared.node_events.NodeEventKind.{NodeEventKind}
use Rattle.ocpi_types.specs.declared.node_events.NodeEventKind.TheVariants as event
use Rattle.ocpi_types.specs.declared.packet.Packet.{Packet}
use Rattle.ocpi_types.specs.declared.rows.Change.{Change}
use Rattle.node_steps.specs.declared.fault.NodeFault.{NodeFault}
use Rattle.node_steps.specs.declared.fault.NodeFault.TheVariants as core
use Rattle.node_laws.specs.Runs.{Run}
use Rattle.world_steps.specs.Network.{Input}
use Rattle.world_steps.specs.Steps.{NodeEvent, NodeRefuses, NodeStep, changes_of, input_of, packets_of}
use Rattle.world_steps.specs.World.{NodeState}
use Rattle.history_laws.specs.Replays.{Brings}
use Rattle.stored_laws.specs.Nodes.{CanStartAgain}
use Rattle.node_store.specs.Contents.{Content, line_of}
use Rattle.node_rows.specs.Holds.{HoldsRows}
use Rattle.node_core.specs.Works.{changes_by, packets_by}
use Rattle.node_core.specs.declared.work.NodeWork.{NodeWork}
use Rattle.stored_nodes.specs.Keepers.{Declines, IsSettled, Keeper}
use Rattle.stored_nodes.specs.Stored.{HoldsOneMore, IsStored, Stored}
use Rattle.stored_nodes.specs.declared.fault.StepFault.{StepFault}
use Rattle.stored_nodes.specs.declared.fault.StepFault.TheVariants.{Core, Memory}
use Rattle.stored_nodes.specs.declared.stored_node.Applied.{Applied}
use Rattle.stored_nodes.specs.declared.stored_node.Applied.TheVariants.{Skipped, Stepped}

-- the node as the events so far left it, its keeper, and the changes of these events, in order
pub record Pending (K : Type 0) : Type 0 where
  pub state : NodeState
  pub keep : K
  pub changes : List Change

-- the changes of events, one event after another
abbrev pub changes_of_each : List NodeEvent → List Change
changes_of_each events = flat_map changes_of events

-- ---- what holds at any time

-- What is kept is the rows of the node before the first event. The events led from there to the node as it is, and the
-- changes are theirs.
pub record IsPending {K : Type 0} (keeper : Keeper K) (p : Pending K) : Type 0 where
  pub first : NodeState
  pub events : List NodeEvent
  pub stored : IsStored keeper (record { state = first; keep = p.keep })
  pub did : Run NodeStep first events p.state
  pub gathers : p.changes ≡ changes_of_each events

-- ---- what an event makes of it

-- the node did in memory what the event asks for, and its changes stand behind those of the events before
pub record DoesInMemory {K : Type 0} (old : Pending K) (k : NodeEventKind) (packets : List Packet) (changed : Bool) (new : Pending K) : Type 0 where
  pub event : NodeEvent
  pub brings : Brings old.state k (input_of event)
  pub step : NodeStep old.state event new.state
  pub sends : packets ≡ packets_of event
  pub tells : IsTrue changed ↔ (changes_of event ≢ [])
  pub gathers : new.changes ≡ old.changes ++ changes_of event
  pub keep : new.keep ≡ old.keep

-- the event is none of this node's role
pub record PassesInMemory {K : Type 0} (old : Pending K) (k : NodeEventKind) (new : Pending K) : Type 0 where
  pub taken : k ≢ event.Refused
  pub nothing : (x : Input) → Brings old.state k x → ⊥
  pub same : new ≡ old

-- the node refuses the event, for a reason that is not want of memory
pub record RefusesInMemory {K : Type 0} (old : Pending K) (k : NodeEventKind) (fault : NodeFault) (new : Pending K) : Type 0 where
  pub input : Input
  pub brings : Brings old.state k input
  pub refuses : NodeRefuses old.state input fault
  pub other : fault ≢ core.Memory
  pub same : new ≡ old

-- what is answered of an event: that it is none of this node's role, or the packets that are to be sent, and whether
-- rows changed; the storing of an event may have been refused elsewhere, and then nothing is done
abbrev pub AppliesInMemory : {K : Type 0} → Pending K → NodeEventKind → Applied → Pending K → Type 0
AppliesInMemory old k Skipped new = PassesInMemory old k new
AppliesInMemory old k (Stepped packets changed) new =
    DoesInMemory old k packets.items changed new ⊎ ((k ≡ event.Refused) × (packets.items ≡ []) × (changed ≡ false) × (new ≡ old))

-- why an event was not done, after which all is as it was
abbrev pub FailsInMemory : {K : Type 0} → Pending K → NodeEventKind → StepFault → Pending K → Type 0
FailsInMemory old k (Core refusal) new = RefusesInMemory old k refusal new
FailsInMemory old k Memory new = new ≡ old

-- what carrying work out answers: its packets, and whether there are changes, which were put behind those before
pub record CarriesOutInMemory (x : NodeWork) (before : List Change) (packets : List Packet) (changed : Bool) (after : List Change) : Type 0 where
  pub sends : packets ≡ packets_by x
  pub tells : IsTrue changed ↔ (changes_by x ≢ [])
  pub gathers : after ≡ before ++ changes_by x

abbrev pub IsCarriedOutInMemory : NodeWork → List Change → Applied → List Change → Type 0
IsCarriedOutInMemory x before Skipped after = ⊥
IsCarriedOutInMemory x before (Stepped packets changed) after = CarriesOutInMemory x before packets.items changed after

-- ---- what a refused commit leaves

-- the number that is kept behind a line: its own, where one is told
abbrev pub number_behind : Option ℕ → Content → Option ℕ
number_behind None kept = line_of kept
number_behind (Some number) kept = Some number

-- the rows of the node after the events, with the number of their line
pub record HoldsAll (line : Option ℕ) (kept : Content) (after : NodeState) (c : Content) : Type 0 where
  pub rows : HoldsRows c after
  pub starts : CanStartAgain after
  pub number : line_of c ≡ number_behind line kept

-- What a stop may leave of a keeper that did not take the changes of events: what it keeps; what one event that was
-- refused before them would have made of that; or the rows of the node after all of them. None of them is left alone.
pub data IsAllOrNothing (line : Option ℕ) (kept : Content) (before after : NodeState) (c : Content) : Type 0 where
  Nothing : c ≡ kept → IsAllOrNothing line kept before after c
  Earlier : HoldsOneMore c before → IsAllOrNothing line kept before after c
  All : HoldsAll line kept after c → IsAllOrNothing line kept before after c

-- such a keeper keeps the rows of the node before the events
pub record KeepsAllOrNothing {K : Type 0} (keeper : Keeper K) (line : Option ℕ) (before after : NodeState) (k : K) : Type 0 where
  pub starts : CanStartAgain before
  pub holds : keeper.is_honest k → HoldsRows (keeper.content k) before
  pub stops : keeper.is_honest k → (c : Content) → keeper.may_leave k c → IsAllOrNothing line (keeper.content k) before after c

-- so it is of each node whose rows were kept, and of any events, however many of them changed rows
abbrev pub LeavesAllOrNothing : {K : Type 0} → Keeper K → Type 0
LeavesAllOrNothing {K} keeper =
    (line : Option ℕ) (old : Stored K) (events : List NodeEvent) (after : NodeState) (rise : ℕ → ℕ) (k : K) → IsStored keeper old → Run NodeStep old.state events after →
    Declines keeper line (changes_of_each events) rise old.keep k → KeepsAllOrNothing keeper line old.state after k

-- Where the commit before was taken, or the keeper was just opened, no event that was refused earlier is left: just what
-- is kept, or the rows of the node after these very events, with the number of their line.
abbrev pub LeavesTheseEvents : {K : Type 0} → Keeper K → Type 0
LeavesTheseEvents {K} keeper =
    (line : Option ℕ) (old : Stored K) (events : List NodeEvent) (after : NodeState) (rise : ℕ → ℕ) (k : K) → IsStored keeper old → IsSettled keeper old.keep → Run NodeStep old.state events after →
    Declines keeper line (changes_of_each events) rise old.keep k → keeper.is_honest k → (c : Content) → keeper.may_leave k c
    → (c ≡ keeper.content k) ⊎ HoldsAll line (keeper.content k) after c
