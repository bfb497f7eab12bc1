use Rattle.table_laws.proofs.UnlockPlaces as laws
use Rattle.table_laws.proofs.laws.unlocks_are_of_no_other.Goals as goal

pub returns : goal.returns
returns c = laws.unlocks_are_of_no_other
