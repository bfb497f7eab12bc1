use Rattle.histories.proofs.Excluding as laws
use Rattle.histories.proofs.laws.blocks_exclude.Goals as goal

pub returns : goal.returns
returns c = laws.blocks_exclude
