use Rattle.stored_laws.proofs.TakingBack as laws
use Rattle.stored_laws.proofs.laws.bills_may_be_taken_back.Goals as goal

pub returns : goal.returns
returns c = laws.bills_may_be_taken_back
