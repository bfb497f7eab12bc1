use Rattle.credit_laws.proofs.Orders as laws
use Rattle.credit_laws.proofs.laws.orders_take_bills_back.Goals as goal

pub returns : goal.returns
returns c = laws.orders_take_bills_back
