use Rattle.world_laws.proofs.Right as laws
use Rattle.world_laws.proofs.laws.worlds_go_on.Goals as goal

pub returns : goal.returns
returns c = laws.worlds_go_on
