use Rattle.stored_laws.proofs.Operators as laws
use Rattle.stored_laws.proofs.laws.operators_are_whole.Goals as goal

pub returns : goal.returns
returns c = laws.operators_are_whole
