use Rattle.reached_laws.proofs.Records as laws
use Rattle.reached_laws.proofs.laws.credits_are_of_bills.Goals as goal

pub returns : goal.returns
returns c = laws.credits_are_of_bills
