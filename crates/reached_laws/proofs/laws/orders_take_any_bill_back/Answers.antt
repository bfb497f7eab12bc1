use Rattle.reached_laws.proofs.Records as laws
use Rattle.reached_laws.proofs.laws.orders_take_any_bill_back.Goals as goal

pub returns : goal.returns
returns c = laws.orders_take_any_bill_back
