-- Why a desk did not enter an event, and what that leaves.
use Rattle.std.specs.Prelude.{◌≡◌, ℕ, ◌<◌, ◌≤◌, length}
use Rattle.stored_nodes.specs.Keepers.{Keeper}
use Rattle.node_desk.specs.declared.fault.DeskFault.{DeskFault}
use Rattle.node_desk.specs.declared.fault.DeskFault.TheVariants.{Core, Memory, Rewound, Store, TraceFull}
use Rattle.node_cells.specs.Cells.{Cell, IsNotEntered, most_entries}
use Rattle.node_cells.specs.declared.fault.CellFault.{CellFault}
use Rattle.node_cells.specs.declared.fault.CellFault.TheVariants as cell
use Rattle.ocpi_types.specs.declared.node_events.NodeEventKind.{NodeEventKind}

-- what a fault of the cell is to the caller of its desk
abbrev pub of_cell : CellFault → DeskFault
of_cell cell.TraceFull = TraceFull
of_cell (cell.Store f) = Store f
of_cell (cell.Core f) = Core f
of_cell cell.Memory = Memory

-- Why an event was not entered for a caller that has seen so many entries: the first of these that applies. The history
-- is full; or it is shorter than what was seen; or the cell did not enter it.
pub data IsNotCalled {K : Type 0} (keeper : Keeper K) (old : Cell K) (seen : ℕ) (k : NodeEventKind) (fault : DeskFault) (new : Cell K) : Type 0 where
  Full : most_entries ≤ length old.history → fault ≡ TraceFull → new ≡ old → IsNotCalled keeper old seen k fault new
  Behind : length old.history < most_entries → length old.history < seen → fault ≡ Rewound (length old.history) → new ≡ old → IsNotCalled keeper old seen k fault new
  NotEntered : length old.history < most_entries → seen ≤ length old.history → (f : CellFault) → fault ≡ of_cell f → IsNotEntered keeper old k f new → IsNotCalled keeper old seen k fault new
