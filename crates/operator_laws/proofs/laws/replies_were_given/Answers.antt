use Rattle.operator_laws.proofs.replies.Given as topic
use Rattle.operator_laws.proofs.laws.replies_were_given.Goals as goal

pub returns : goal.returns
returns c = topic.replies_were_given
