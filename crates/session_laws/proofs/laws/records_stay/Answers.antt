use Rattle.session_laws.proofs.Billing as topic
use Rattle.session_laws.proofs.laws.records_stay.Goals as goal

pub returns : goal.returns
returns c = topic.records_stay
