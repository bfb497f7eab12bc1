use Rattle.std.proofs.Common.{◌≡◌, [], take}
use Rattle.std.specs.FinSet.{from_list}
use Rattle.ocpi_types.specs.Apart.{DifferFrom}
use Rattle.ocpi_types.specs.Locations.{site_evse_keys}
use Rattle.ocpi_types.proofs.site.uids_differ.Given as goal

abbrev pub invariant-loop-location : goal.invariant-loop-location
invariant-loop-location l = (l.uids ≡ from_list (site_evse_keys (take l.location-index l.locations))) × DifferFrom [] (site_evse_keys (take l.location-index l.locations))
