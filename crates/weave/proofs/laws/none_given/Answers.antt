use Rattle.weave.proofs.Excluding as laws
use Rattle.weave.proofs.laws.none_given.Goals as goal

pub returns : goal.returns
returns c = laws.none_given
