use Rattle.weave.proofs.Excluding as laws
use Rattle.weave.proofs.laws.any_given.Goals as goal

pub returns : goal.returns
returns c = laws.any_given
