use Rattle.replay_laws.proofs.Answering as laws
use Rattle.replay_laws.proofs.laws.nodes_have_one_answer.Goals as goal

pub returns : goal.returns
returns c = laws.nodes_have_one_answer
