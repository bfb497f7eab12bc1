use Rattle.session_laws.proofs.Currencies as topic
use Rattle.session_laws.proofs.laws.currencies_are_of_site.Goals as goal

pub returns : goal.returns
returns c = topic.currencies_are_of_site
