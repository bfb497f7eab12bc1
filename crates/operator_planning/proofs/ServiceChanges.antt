-- That an EVSE goes out of service, or comes back, stores no counter.
use Rattle.std.proofs.Common.{ℕ, List, [], ◌∷◌, Bool, ap}
use Rattle.ocpi_types.specs.declared.rows.Change.{Change}
use Rattle.node_steps.specs.Acts.{all_changes, changed}
use Rattle.operator_rows.specs.State.{State}
use Rattle.operator_steps.specs.Service.{ServiceLine, Unknown, Unchanged, Withdrawn, Restored}
use Rattle.operator_planning.proofs.PlannedActs.{IsNoCount}

pub service_no_count : (s : State) (evse : List ℕ) (in_service : Bool) (c : Change) → ServiceLine s evse in_service (changed c ∷ []) → IsNoCount c
service_no_count s evse in_service c (Unknown none is) k n same = let e = ap all_changes is in cc
service_no_count s evse in_service c (Unchanged known works is) k n same = let e = ap all_changes is in cc
service_no_count s evse in_service c (Withdrawn known off works is) k n same = let e = ap all_changes is in cc
service_no_count s evse in_service c (Restored known on works is) k n same = let e = ap all_changes is in cc
