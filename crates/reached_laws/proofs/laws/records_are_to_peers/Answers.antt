use Rattle.reached_laws.proofs.Records as laws
use Rattle.reached_laws.proofs.laws.records_are_to_peers.Goals as goal

pub returns : goal.returns
returns c = laws.records_are_to_peers
