use Rattle.provider_laws.proofs.replies.Answering as laws
use Rattle.provider_laws.proofs.laws.replies_answer.Goals as goal

pub returns : goal.returns
returns c = laws.replies_answer
