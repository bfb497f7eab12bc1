use Rattle.provider_laws.proofs.nodes.Acknowledging as laws
use Rattle.provider_laws.proofs.laws.sent_acknowledgements_hold.Goals as goal

pub returns : goal.returns
returns c = laws.sent_acknowledgements_hold
