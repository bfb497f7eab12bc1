use Rattle.histories.proofs.Excluding as laws
use Rattle.histories.proofs.laws.different_excludes.Goals as goal

pub returns : goal.returns
returns c = laws.different_excludes
