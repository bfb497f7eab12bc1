use Rattle.currency_laws.proofs.Staying as laws
use Rattle.currency_laws.proofs.laws.currencies_stay.Goals as goal

pub returns : goal.returns
returns c = laws.currencies_stay
