use Rattle.provider_laws.proofs.nodes.NodeLaws as laws
use Rattle.provider_laws.proofs.laws.sent_replies_are_kept.Goals as goal

pub returns : goal.returns
returns c = laws.sent_replies_are_kept
