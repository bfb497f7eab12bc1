use Rattle.stored_laws.proofs.Starting.{openings_can_start_again}
use Rattle.stored_laws.proofs.laws.openings_can_start_again.Goals as goal

pub returns : goal.returns
returns c = openings_can_start_again
