-- What a call was inside, while it had the lock. The cell that it found is one of the desk: it goes on from what had
-- happened when the desk was made, by the entries that calls made since. Which cell it was, no caller knows.
use Rattle.std.specs.Prelude.{◌≡◌, ◌+◌, ℕ, length}
use Rattle.stored_nodes.specs.Keepers.{Keeper}
use Rattle.node_desk.specs.Faults.{IsNotCalled}
use Rattle.node_desk.specs.Logs.{GoesOn, Log, log_of}
use Rattle.node_desk.specs.declared.fault.DeskFault.{DeskFault}
use Rattle.node_cells.specs.Cells.{Cell, Enters, IsCell}
use Rattle.ocpi_types.specs.declared.node_events.NodeEventKind.{NodeEventKind}
use Rattle.receipts.specs.Audits.{entry_of}
use Rattle.receipts.specs.declared.receipt.Receipt.{Receipt}

-- The call found a cell of the desk, and entered just what the receipt tells: its event, with the packets that the node
-- sent by it. The receipt's place is that of this entry, and the desk goes on by one.
pub record WasEntered {K : Type 0} (keeper : Keeper K) (before : Log) (r : Receipt) : Type 0 where
  pub old : Cell K
  pub new : Cell K
  pub made : ℕ
  pub found : IsCell keeper old
  pub reached : GoesOn before (log_of old) made
  pub enters : Enters keeper old (entry_of r) new
  pub place : r.place ≡ length old.history
  pub goes_on : GoesOn before (log_of new) (made + 1)

-- The call found a cell of the desk, which did not enter the event, for this reason, of a caller that had seen so many
-- entries. The desk is where it was.
pub record WasRefused {K : Type 0} (keeper : Keeper K) (before : Log) (seen : ℕ) (event : NodeEventKind) (fault : DeskFault) : Type 0 where
  pub old : Cell K
  pub new : Cell K
  pub made : ℕ
  pub found : IsCell keeper old
  pub reached : GoesOn before (log_of old) made
  pub not_called : IsNotCalled keeper old seen event fault new
  pub stays : GoesOn before (log_of new) made
