use Rattle.session_laws.proofs.Sending as topic
use Rattle.session_laws.proofs.laws.sent_versions_are_past.Goals as goal

pub returns : goal.returns
returns c = topic.sent_versions_are_past
