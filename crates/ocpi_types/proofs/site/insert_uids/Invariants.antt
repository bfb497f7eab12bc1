use Rattle.std.proofs.Common.{◌≡◌, ℕ, List, ◌++◌, take}
use Rattle.std.specs.FinSet.{from_list}
use Rattle.ocpi_types.specs.Apart.{DifferFrom}
use Rattle.ocpi_types.specs.Locations.{evse_keys}
use Rattle.ocpi_types.proofs.site.insert_uids.Given as goal

abbrev pub invariant-loop-evse : goal.invariant-loop-evse
invariant-loop-evse l = (earlier : List (List ℕ)) → l.initial.uids ≡ from_list earlier
    → (l.uids ≡ from_list (earlier ++ evse_keys (take l.evse-index l.evses))) × DifferFrom earlier (evse_keys (take l.evse-index l.evses))
