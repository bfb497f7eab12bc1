-- Cells of the nodes of a setup, and the run of its world that their histories are.
use Rattle.std.specs.Prelude.{◌≡◌, ℕ, List, Some, Contains, map, slice_get, ⊤}
use Rattle.ocpi_text.specs.Text.{key}
use Rattle.ocpi_types.specs.Setups.{party_of}
use Rattle.ocpi_types.specs.declared.events.Event.{Event}
use Rattle.ocpi_types.specs.declared.setup.Node.{Node}
use Rattle.histories.specs.declared.entry.Entry.{Entry}
use Rattle.histories.specs.declared.history.NodeHistory.{NodeHistory}
use Rattle.histories.specs.Weaving.{CanInterleave, IsInterleaving}
use Rattle.history_laws.specs.Laws.{IsRunOf}
use Rattle.node_cells.specs.Cells.{Cell}
use Rattle.weave.specs.Faults.{Explains}
use Rattle.weave.specs.declared.fault.WeaveFault.{WeaveFault}
use Rattle.weave.specs.declared.fault.WeaveFault.TheVariants.{Differs, Memory, NeverSent, NoOrder}
use Rattle.world_laws.specs.Laws.{IsSetup}
use Rattle.world_steps.specs.World.{NodeState, opening_of}

-- ---- which cells are woven

-- the cell is of a node of the setup, and has all that ever happened at it
pub record IsCellOf {K : Type 0} (setup : List Node) (c : Cell K) : Type 0 where
  pub member : Node
  pub among : Contains setup member
  pub party : c.party ≡ party_of member
  pub first : c.first ≡ opening_of setup member

-- cells of nodes of one setup, no two of one node
pub record AreCellsOf {K : Type 0} (setup : List Node) (cells : List (Cell K)) : Type 0 where
  pub is_setup : IsSetup setup
  pub each : (c : Cell K) → Contains cells c → IsCellOf setup c
  pub apart : (i j : ℕ) (c d : Cell K) → slice_get cells i ≡ Some c → slice_get cells j ≡ Some d → key c.party ≡ key d.party → i ≡ j

-- ---- their histories

-- what a history tells, whoever holds its entries
pub record Told : Type 0 where
  pub party : List ℕ
  pub before : ℕ
  pub entries : List Entry

abbrev pub told_of : NodeHistory → Told
told_of h = record { party = h.party; before = h.before; entries = h.entries.now }

abbrev pub told_of_cell : {K : Type 0} → Cell K → Told
told_of_cell c = record { party = c.party; before = 0; entries = c.history }

-- the histories are those of the cells, in their order
abbrev pub AreTold : {K : Type 0} → List NodeHistory → List (Cell K) → Type 0
AreTold hs cells = map told_of hs ≡ map told_of_cell cells

abbrev pub state_in : {K : Type 0} → Cell K → NodeState
state_in c = c.state

-- ---- what is answered

-- the events are an interleaving of the cells' histories, and a legal run of the setup's world
pub record IsRunOfCells {K : Type 0} (setup : List Node) (cells : List (Cell K)) (events : List Event) : Type 0 where
  pub histories : List NodeHistory
  pub told : AreTold histories cells
  pub interleaving : IsInterleaving histories events
  pub run : IsRunOf setup histories (map state_in cells) events

-- what is told is so of the cells' histories, which have no interleaving
pub record HaveNoRun {K : Type 0} (cells : List (Cell K)) (fault : WeaveFault) : Type 0 where
  pub histories : List NodeHistory
  pub told : AreTold histories cells
  pub cause : Explains histories fault
  pub none : CanInterleave histories → ⊥

-- why cells are not woven
abbrev pub IsNotWoven : {K : Type 0} → List (Cell K) → WeaveFault → Type 0
IsNotWoven cells (NeverSent packet) = HaveNoRun cells (NeverSent packet)
IsNotWoven cells (Differs packet) = HaveNoRun cells (Differs packet)
IsNotWoven cells (NoOrder front) = HaveNoRun cells (NoOrder front)
IsNotWoven cells Memory = ⊤
