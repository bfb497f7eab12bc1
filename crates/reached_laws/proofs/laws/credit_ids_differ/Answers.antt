use Rattle.reached_laws.proofs.Records as laws
use Rattle.reached_laws.proofs.laws.credit_ids_differ.Goals as goal

pub returns : goal.returns
returns c = laws.credit_ids_differ
