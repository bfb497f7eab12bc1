use Rattle.stored_laws.proofs.Openings as laws
use Rattle.stored_laws.proofs.laws.nodes_keep_openings.Goals as goal

pub returns : goal.returns
returns c = laws.nodes_keep_openings
