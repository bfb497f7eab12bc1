use Rattle.ocpi_forms.proofs.Seen.{LocationsSoFar}
use Rattle.ocpi_forms.proofs.sites.location_elements.Given as goal

abbrev pub invariant-loop-value : goal.invariant-loop-value
invariant-loop-value l = LocationsSoFar l.values l.value-index l.locations.items l.seen
