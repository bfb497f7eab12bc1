use Rattle.table_laws.proofs.ReservedStarts as laws
use Rattle.table_laws.proofs.laws.reservations_are_used.Goals as goal

pub returns : goal.returns
returns c = laws.reservations_are_used
