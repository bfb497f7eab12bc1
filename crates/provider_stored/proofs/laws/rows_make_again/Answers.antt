use Rattle.provider_stored.proofs.Told.{make_again}
use Rattle.provider_stored.proofs.laws.rows_make_again.Goals as goal

pub returns : goal.returns
returns c = make_again
