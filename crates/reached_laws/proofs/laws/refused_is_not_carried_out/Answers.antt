use Rattle.reached_laws.proofs.Refusing as laws
use Rattle.reached_laws.proofs.laws.refused_is_not_carried_out.Goals as goal

pub returns : goal.returns
returns c = laws.refused_is_not_carried_out
