use Rattle.ocpi_forms.proofs.Seen.{EvsesRead}
use Rattle.ocpi_forms.proofs.sites.evse_elements.Given as goal

abbrev pub invariant-loop-value : goal.invariant-loop-value
invariant-loop-value l = EvsesRead l.values l.value-index l.evses.items l.fn.uids l.uids
