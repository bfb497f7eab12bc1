use Rattle.session_laws.proofs.Billing as topic
use Rattle.session_laws.proofs.laws.sessions_are_billed_once.Goals as goal

pub returns : goal.returns
returns c = topic.sessions_are_billed_once
