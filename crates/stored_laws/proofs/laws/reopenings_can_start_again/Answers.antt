use Rattle.stored_laws.proofs.Openings as laws
use Rattle.stored_laws.proofs.laws.reopenings_can_start_again.Goals as goal

pub returns : goal.returns
returns c = laws.reopenings_can_start_again
