-- What a caller is told of a call, of what was done inside.
use Rattle.std.proofs.Common.{◌≡◌, ℕ, ◌+◌, length, refl, subst, sym}
use Rattle.stored_nodes.specs.Keepers.{Keeper}
use Rattle.node_desk.specs.Calls.{WasEntered, WasRefused}
use Rattle.node_desk.specs.Faults.{IsNotCalled}
use Rattle.node_desk.specs.Logs.{GoesOn, Log, log_of}
use Rattle.node_desk.specs.declared.fault.Refusal.{Refusal}
use Rattle.node_desk.specs.declared.fault.DeskFault.{DeskFault}
use Rattle.node_desk.proofs.Going.{goes_on, still}
use Rattle.node_cells.specs.Cells.{Cell, Enters, IsCell}
use Rattle.ocpi_types.specs.declared.node_events.NodeEventKind.{NodeEventKind}
use Rattle.receipts.specs.Audits.{entry_of}
use Rattle.receipts.specs.declared.receipt.Receipt.{Receipt}

module _ {K : Type 0} (keeper : Keeper K) (before : Log) (old new : Cell K) (made : ℕ) (found : IsCell keeper old) (reached : GoesOn before (log_of old) made) where
  -- a receipt was entered
  pub was_entered : (r : Receipt) → Enters keeper old (entry_of r) new → r.place ≡ length old.history → WasEntered keeper before r
  was_entered r enters place = record {
    old = old;
    new = new;
    made = made;
    found = found;
    reached = reached;
    enters = enters;
    place = place;
    goes_on = goes_on keeper before old new (entry_of r) made (made + 1) reached enters refl;
  }

  -- an event was refused
  pub was_refused : (seen own : ℕ) (event : NodeEventKind) (fault : DeskFault) → IsNotCalled keeper old own event fault new → seen ≡ own → WasRefused keeper before seen event fault
  was_refused seen own event fault not same = record {
    old = old;
    new = new;
    made = made;
    found = found;
    reached = reached;
    not_called = subst (λ (n : ℕ). IsNotCalled keeper old n event fault new) (sym same) not;
    stays = still keeper old new before own event fault made reached not;
  }
