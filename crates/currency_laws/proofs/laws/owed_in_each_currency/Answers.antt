use Rattle.currency_laws.proofs.Owing as laws
use Rattle.currency_laws.proofs.laws.owed_in_each_currency.Goals as goal

pub returns : goal.returns
returns c = laws.owed_in_each_currency
