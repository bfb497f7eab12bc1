-- A node whose rows a keeper keeps: what holds of it at any time, and what an event makes of it.
use Rattle.std.specs.Prelude.{◌≡◌, ◌≢◌, ◌≤◌, ◌⊎◌, ◌↔◌, ℕ, List, [], Bool, true, false, IsTrue, Option, None, Some, IsSome, length}
use Rattle.ocpi_text.specs.Whole.{max_whole}
use Rattle.ocpi_types.specs.declared.node_events.NodeEventKind.{NodeEventKind}
use Rattle.ocpi_types.specs.declared.node_events.NodeEventKind.TheVariants as event
use Rattle.ocpi_types.specs.declared.packet.Packet.{Packet}
use Rattle.ocpi_types.specs.declared.rows.Row.{Row}
use Rattle.node_steps.specs.declared.fault.NodeFault.{NodeFault}
use Rattle.node_steps.specs.declared.fault.NodeFault.TheVariants.{Memory}
use Rattle.world_steps.specs.Network.{Input}
use Rattle.world_steps.specs.Steps.{NodeEvent, NodeRefuses, NodeStep, changes_of, input_of, packets_of}
use Rattle.world_steps.specs.World.{NodeState, opening_of}
use Rattle.history_laws.specs.Replays.{Brings}
use Rattle.stored_laws.specs.Nodes.{CanStartAgain, IsOfOpening}
use Rattle.stored_rows.specs.declared.fault.RowsFault.{RowsFault}
use Rattle.stored_rows.specs.declared.fault.RowsFault.TheVariants as rows_fault
use Rattle.node_store.specs.Contents.{Content, line_of, rows_of}
use Rattle.node_store.specs.Faults.{IsCommitFault, counted_fault}
use Rattle.node_rows.specs.Holds.{HoldsRows, StoresAlike}
use Rattle.node_core.specs.Works.{changes_by, packets_by}
use Rattle.node_core.specs.declared.work.NodeWork.{NodeWork}
use Rattle.node_core.specs.Members.{IsBadFor, IsMadeOfRows}
use Rattle.ocpi_types.specs.declared.setup.Node.{Node as SetupNode}
use Rattle.stored_nodes.specs.Keepers.{Commits, Declines, Keeper, KeepsOn}
use Rattle.stored_nodes.specs.declared.fault.ApplyFault.{ApplyFault}
use Rattle.stored_nodes.specs.declared.fault.ApplyFault.TheVariants as fault
use Rattle.stored_nodes.specs.declared.fault.ReopenFault.{ReopenFault}
use Rattle.stored_nodes.specs.declared.fault.ReopenFault.TheVariants as reopen_fault
use Rattle.stored_nodes.specs.declared.stored_node.Applied.{Applied}
use Rattle.stored_nodes.specs.declared.stored_node.Applied.TheVariants.{Skipped, Stepped}
use Rattle.node_store.specs.declared.fault.StoreFault.{StoreFault}
use Rattle.node_store.specs.declared.fault.StoreFault.TheVariants as store

-- the node, and the keeper of its rows
pub record Stored (K : Type 0) : Type 0 where
  pub state : NodeState
  pub keep : K

-- ---- what holds at any time

-- A content that a stop may leave because a commit was refused: it holds the rows of v, to which one event leads from u,
-- and u stored what the node stores now. (Several commits may have been refused in a row, and what is awaited may have
-- changed in between.)
pub record HoldsOneMore (c : Content) (now : NodeState) : Type 0 where
  pub u : NodeState
  pub v : NodeState
  pub event : NodeEvent
  pub alike : StoresAlike u now
  pub step : NodeStep u event v
  pub holds : HoldsRows c v
  pub numbered : IsSome (line_of c)
  pub starts : CanStartAgain v

-- What is kept is the rows of the node, and the number of a line. A stop leaves that, or what one event more would have
-- made of it.
pub record IsStored {K : Type 0} (keeper : Keeper K) (n : Stored K) : Type 0 where
  pub starts : CanStartAgain n.state
  pub holds : keeper.is_honest n.keep → HoldsRows (keeper.content n.keep) n.state
  pub numbered : keeper.is_honest n.keep → IsSome (line_of (keeper.content n.keep))
  pub stops : keeper.is_honest n.keep → (c : Content) → keeper.may_leave n.keep c → (c ≡ keeper.content n.keep) ⊎ HoldsOneMore c n.state

-- ---- what an event makes of it

-- the node did what the event asks for, and its changes were committed first, with the number of its line
pub record Does {K : Type 0} (keeper : Keeper K) (line : Option ℕ) (old : Stored K) (k : NodeEventKind) (packets : List Packet) (changed : Bool) (new : Stored K) : Type 0 where
  pub event : NodeEvent
  pub brings : Brings old.state k (input_of event)
  pub step : NodeStep old.state event new.state
  pub sends : packets ≡ packets_of event
  pub tells : IsTrue changed ↔ (changes_of event ≢ [])
  pub commits : Commits keeper line (changes_of event) old.keep new.keep

-- the event is none of this node's role
pub record Passes {K : Type 0} (old : Stored K) (k : NodeEventKind) (new : Stored K) : Type 0 where
  pub taken : k ≢ event.Refused
  pub nothing : (x : Input) → Brings old.state k x → ⊥
  pub same : new ≡ old

-- the node refuses the event, for a reason that is not want of memory
pub record Refuses {K : Type 0} (old : Stored K) (k : NodeEventKind) (fault : NodeFault) (new : Stored K) : Type 0 where
  pub input : Input
  pub brings : Brings old.state k input
  pub refuses : NodeRefuses old.state input fault
  pub other : fault ≢ Memory
  pub same : new ≡ old

-- The keeper did not take the changes of what the event asks for: nothing is done. `rise` says what became of its count
-- of refusals.
pub record Loses {K : Type 0} (keeper : Keeper K) (line : Option ℕ) (old : Stored K) (k : NodeEventKind) (rise : ℕ → ℕ) (new : Stored K) : Type 0 where
  pub event : NodeEvent
  pub after : NodeState
  pub brings : Brings old.state k (input_of event)
  pub step : NodeStep old.state event after
  pub some : changes_of event ≢ []
  pub state : new.state ≡ old.state
  pub declines : Declines keeper line (changes_of event) rise old.keep new.keep

-- what is answered of an event: that it is none of this node's role, or the packets that were sent, and whether rows
-- changed; the storing of an event may have been refused elsewhere, and then nothing is done
abbrev pub Applies : {K : Type 0} → Keeper K → Option ℕ → Stored K → NodeEventKind → Applied → Stored K → Type 0
Applies keeper line old k Skipped new = Passes old k new
Applies keeper line old k (Stepped packets changed) new =
    Does keeper line old k packets.items changed new ⊎ ((k ≡ event.Refused) × (packets.items ≡ []) × (changed ≡ false) × (new ≡ old))

-- Why an event was not done, and what that leaves: all is as it was, but for a keeper that did not take the changes,
-- for want of memory too.
abbrev pub Fails : {K : Type 0} → Keeper K → Option ℕ → Stored K → NodeEventKind → ApplyFault → Stored K → Type 0
Fails keeper line old k (fault.Store refusal) new = IsCommitFault refusal × Loses keeper line old k (counted_fault refusal) new
Fails keeper line old k (fault.Core refusal) new = Refuses old k refusal new
Fails keeper line old k fault.Memory new = new ≡ old

-- what carrying work out answers: its packets, and whether there were changes, which were committed first
pub record CarriesOut {K : Type 0} (keeper : Keeper K) (line : Option ℕ) (x : NodeWork) (before : K) (packets : List Packet) (changed : Bool) (after : K) : Type 0 where
  pub sends : packets ≡ packets_by x
  pub tells : IsTrue changed ↔ (changes_by x ≢ [])
  pub commits : Commits keeper line (changes_by x) before after

abbrev pub IsCarriedOut : {K : Type 0} → Keeper K → Option ℕ → NodeWork → K → Applied → K → Type 0
IsCarriedOut keeper line x before Skipped after = ⊥
IsCarriedOut keeper line x before (Stepped packets changed) after = CarriesOut keeper line x before packets.items changed after

-- the keeper did not take the changes of work
pub record IsDeclined {K : Type 0} (keeper : Keeper K) (line : Option ℕ) (x : NodeWork) (rise : ℕ → ℕ) (before after : K) : Type 0 where
  pub some : changes_by x ≢ []
  pub declines : Declines keeper line (changes_by x) rise before after

-- why work was not carried out: the keeper did not take its changes, or memory ran out before it was asked
abbrev pub IsNotCarriedOut : {K : Type 0} → Keeper K → Option ℕ → NodeWork → K → ApplyFault → K → Type 0
IsNotCarriedOut keeper line x before (fault.Store refusal) after = IsCommitFault refusal × IsDeclined keeper line x (counted_fault refusal) before after
IsNotCarriedOut keeper line x before (fault.Core refusal) after = ⊥
IsNotCarriedOut keeper line x before fault.Memory after = after ≡ before

-- ---- a node that is made of what is kept

-- what is told where a keeper does not tell its rows, and where no node is made of them
abbrev pub unloaded : StoreFault → ReopenFault
unloaded (store.Refused cause) = reopen_fault.Store (store.Refused cause)
unloaded store.BadRow = reopen_fault.Store store.BadRow
unloaded store.OldLayout = reopen_fault.Store store.OldLayout
unloaded store.Memory = reopen_fault.Memory

abbrev pub unmade : RowsFault → ReopenFault
unmade (rows_fault.BadRows bad) = reopen_fault.BadRows bad
unmade rows_fault.Memory = reopen_fault.Memory

-- a node of the setup that has just the rows that are kept, and the number of the last line that took hold
pub record Reopens {K : Type 0} (keeper : Keeper K) (setup : List SetupNode) (member : SetupNode) (before : K) (rows line : ℕ) (new : Stored K) : Type 0 where
  pub list : List Row
  pub reads : keeper.is_honest new.keep → rows_of (keeper.content before) ≡ Some list
  pub counts : rows ≡ length list
  pub first : 1 ≤ line
  pub most : line ≤ max_whole
  pub told : keeper.is_honest new.keep → line_of (keeper.content before) ≡ Some line
  pub made : IsMadeOfRows setup member list new.state
  pub keeps : KeepsOn keeper before new.keep
  pub counted : keeper.refusals new.keep ≡ keeper.refusals before

-- why there is none: the keeper did not tell its rows, or these are of no such node, for the reason that is told
abbrev pub IsReopenFault : {K : Type 0} → Keeper K → List SetupNode → SetupNode → K → ReopenFault → K → Type 0
IsReopenFault keeper setup member before (reopen_fault.Store refusal) after =
    (refusal ≢ store.OldLayout) × (refusal ≢ store.Memory) × (keeper.refusals after ≡ counted_fault refusal (keeper.refusals before))
    × (keeper.is_honest after → refusal ≡ store.BadRow → (rows_of (keeper.content before) ≡ None) ⊎ (line_of (keeper.content before) ≡ None))
IsReopenFault keeper setup member before (reopen_fault.BadRows bad) after =
    (list : List Row) × (keeper.is_honest after → rows_of (keeper.content before) ≡ Some list) × IsBadFor setup member list bad.key bad.reason
    × (keeper.refusals after ≡ keeper.refusals before)
IsReopenFault keeper setup member before reopen_fault.Memory after = keeper.refusals after ≡ keeper.refusals before

-- what is told is no word against what is kept
abbrev pub IsNotBad : ReopenFault → Type 0
IsNotBad (reopen_fault.Store refusal) = refusal ≢ store.BadRow
IsNotBad (reopen_fault.BadRows bad) = ⊥
IsNotBad reopen_fault.Memory = Unit {0}

-- what is kept are the rows of that node of the setup, which can start again, and a number of the last line
pub record IsKeptFor (setup : List SetupNode) (member : SetupNode) (c : Content) (s : NodeState) : Type 0 where
  pub starts : CanStartAgain s
  pub of_member : IsOfOpening (opening_of setup member) s
  pub holds : HoldsRows c s
  pub numbered : IsSome (line_of c)
