use Rattle.std.proofs.Common.{◌≡◌, [], take}
use Rattle.std.specs.FinSet.{from_list}
use Rattle.ocpi_types.specs.Apart.{DifferFrom}
use Rattle.ocpi_types.specs.Locations.{location_keys}
use Rattle.ocpi_types.proofs.site.ids_differ.Given as goal

abbrev pub invariant-loop-location : goal.invariant-loop-location
invariant-loop-location l = (l.ids ≡ from_list (location_keys (take l.location-index l.locations))) × DifferFrom [] (location_keys (take l.location-index l.locations))
