use Rattle.provider_stored.proofs.Told.{tell_all}
use Rattle.provider_stored.proofs.laws.rows_tell_all.Goals as goal

pub returns : goal.returns
returns c = tell_all
