-- A node over its keeper with its history: what holds of it at any time, and what an event makes of it.
use Rattle.std.specs.Prelude.{◌≡◌, ◌⊎◌, suc, ◌<◌, ◌≤◌, ℕ, List, [], ◌∷◌, ◌++◌, Bool, true, false, None, Contains, length}
use Rattle.ocpi_types.specs.Setups.{party_of}
use Rattle.ocpi_types.specs.declared.node_events.NodeEventKind.{NodeEventKind}
use Rattle.ocpi_types.specs.declared.setup.Node.{Node}
use Rattle.node_store.specs.Contents.{Content}
use Rattle.node_store.specs.declared.fault.StoreFault.{StoreFault}
use Rattle.node_store.specs.declared.fault.StoreFault.TheVariants as store
use Rattle.world_laws.specs.Laws.{IsSetup}
use Rattle.world_steps.specs.Steps.{NodeEvent, changes_of}
use Rattle.world_steps.specs.World.{NodeState, opening_of}
use Rattle.stored_nodes.specs.Keepers.{Commits, Keeper}
use Rattle.stored_nodes.specs.Stored.{IsStored, Loses, Refuses, Reopens, Stored}
use Rattle.stored_nodes.specs.declared.fault.ApplyFault.{ApplyFault}
use Rattle.stored_nodes.specs.declared.fault.ApplyFault.TheVariants as apply
use Rattle.history_laws.specs.Replays.{Did, Replays, WasIdle}
use Rattle.node_cells.specs.Histories.{IsLeft}
use Rattle.histories.specs.declared.entry.Entry.{Entry}
use Rattle.node_cells.specs.declared.fault.CellFault.{CellFault}
use Rattle.node_cells.specs.declared.fault.CellFault.TheVariants.{Core, Memory, Store, TraceFull}

-- the most entries of a history
abbrev pub most_entries : ℕ
most_entries = 100000

-- whose node it is; the node as it was opened, and as the entries left it; its keeper; the entries, oldest first; and
-- whether it was opened before any event, and not made of rows
pub record Cell (K : Type 0) : Type 0 where
  pub party : List ℕ
  pub first : NodeState
  pub state : NodeState
  pub keep : K
  pub history : List Entry
  pub is_fresh : Bool

abbrev pub stored_of : {K : Type 0} → Cell K → Stored K
stored_of c = record { state = c.state; keep = c.keep }

-- what was noted as it was opened
abbrev pub first_of : {K : Type 0} → List (Stored K) → Stored K → NodeState
first_of [] now = now.state
first_of (s ∷ ss) now = s.state

abbrev pub cell_of : {K : Type 0} → List ℕ → List (Stored K) → List Entry → Bool → Stored K → Cell K
cell_of party noted history is_fresh s = record { party = party; first = first_of noted s; state = s.state; keep = s.keep; history = history; is_fresh = is_fresh }

-- ---- what holds at any time

-- the state is that of the party's node of a setup before any event
pub record IsOpening (party : List ℕ) (first : NodeState) : Type 0 where
  pub setup : List Node
  pub is_setup : IsSetup setup
  pub member : Node
  pub among : Contains setup member
  pub of_party : party ≡ party_of member
  pub is : first ≡ opening_of setup member

-- The keeper has just the node's rows. The node is what the history, of at most 100,000 entries, made of the first
-- state, which is that before any event where the cell is fresh. A stop leaves what the history made, as its rows tell
-- it, or what one event more would have.
pub record IsCell {K : Type 0} (keeper : Keeper K) (c : Cell K) : Type 0 where
  pub stored : IsStored keeper (stored_of c)
  pub opens : c.is_fresh ≡ true → IsOpening c.party c.first
  pub replays : Replays c.first c.history c.state
  pub few : length c.history ≤ most_entries
  pub stops : keeper.is_honest c.keep → (content : Content) → keeper.may_leave c.keep content → IsLeft c.first c.state c.history content

-- ---- what an event makes of it

-- the step of an entry, and what was committed by it: without changes the keeper was not asked
pub data StoredStep {K : Type 0} (keeper : Keeper K) (old : Stored K) (e : Entry) (new : Stored K) : Type 0 where
  Does : (x : NodeEvent) → Did old.state e x new.state → Commits keeper None (changes_of x) old.keep new.keep → StoredStep keeper old e new
  Idle : WasIdle old.state e new.state → new.keep ≡ old.keep → StoredStep keeper old e new

-- one entry more
pub record Adds {K : Type 0} (keeper : Keeper K) (old : Stored K) (before : List Entry) (e : Entry) (new : Stored K) (after : List Entry) : Type 0 where
  pub few : length before < most_entries
  pub step : StoredStep keeper old e new
  pub history : after ≡ before ++ e ∷ []

pub record Enters {K : Type 0} (keeper : Keeper K) (old : Cell K) (e : Entry) (new : Cell K) : Type 0 where
  pub adds : Adds keeper (stored_of old) old.history e (stored_of new) new.history
  pub party : new.party ≡ old.party
  pub first : new.first ≡ old.first
  pub fresh : new.is_fresh ≡ old.is_fresh

-- what a keeper's fault is to the cell, which tells its want of memory as any other
abbrev pub keeper_fault : StoreFault → CellFault
keeper_fault (store.Refused cause) = Store (store.Refused cause)
keeper_fault store.BadRow = Store store.BadRow
keeper_fault store.OldLayout = Store store.OldLayout
keeper_fault store.Memory = Memory

-- what a fault of the node over its keeper is to the cell
abbrev pub cell_fault : ApplyFault → CellFault
cell_fault (apply.Store refusal) = keeper_fault refusal
cell_fault (apply.Core refusal) = Core refusal
cell_fault apply.Memory = Memory

-- why there is no room for an entry more
abbrev pub IsNoRoom : List Entry → CellFault → Type 0
IsNoRoom history TraceFull = most_entries ≤ length history
IsNoRoom history (Store refusal) = ⊥
IsNoRoom history (Core refusal) = ⊥
IsNoRoom history Memory = Unit {0}

-- a keeper refused, which is no want of memory
abbrev pub IsRefusal : StoreFault → Type 0
IsRefusal (store.Refused cause) = Unit {0}
IsRefusal store.BadRow = ⊥
IsRefusal store.OldLayout = ⊥
IsRefusal store.Memory = ⊥

-- why nothing was done: want of memory may be the node's own, or its keeper's
abbrev pub IsNotDone : {K : Type 0} → Keeper K → Stored K → List Entry → NodeEventKind → CellFault → Stored K → Type 0
IsNotDone keeper old history k TraceFull new = (most_entries ≤ length history) × (new ≡ old)
IsNotDone keeper old history k (Store refusal) new = IsRefusal refusal × Loses keeper None old k suc new
IsNotDone keeper old history k (Core refusal) new = Refuses old k refusal new
IsNotDone keeper old history k Memory new = (new ≡ old) ⊎ Loses keeper None old k (λ n. n) new

-- why an event was not entered; the cell is as it was, but for its keeper
pub record IsNotEntered {K : Type 0} (keeper : Keeper K) (old : Cell K) (k : NodeEventKind) (fault : CellFault) (new : Cell K) : Type 0 where
  pub why : IsNotDone keeper (stored_of old) old.history k fault (stored_of new)
  pub state : new.state ≡ old.state
  pub history : new.history ≡ old.history
  pub party : new.party ≡ old.party
  pub first : new.first ≡ old.first
  pub fresh : new.is_fresh ≡ old.is_fresh

-- ---- a cell that is made of what is kept

-- a node of the setup that has just the rows that are kept, at which nothing has happened since
pub record OpensAgain {K : Type 0} (keeper : Keeper K) (setup : List Node) (member : Node) (before : K) (c : Cell K) : Type 0 where
  pub rows : ℕ
  pub line : ℕ
  pub reopens : Reopens keeper setup member before rows line (stored_of c)
  pub party : c.party ≡ party_of member
  pub first : c.first ≡ c.state
  pub history : c.history ≡ []
  pub fresh : c.is_fresh ≡ false
