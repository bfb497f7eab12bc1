use Rattle.handover.proofs.Holding.{bills_stand_beside_credits}
use Rattle.handover.proofs.laws.bills_stand_beside_credits.Goals as goal

pub returns : goal.returns
returns c = bills_stand_beside_credits
