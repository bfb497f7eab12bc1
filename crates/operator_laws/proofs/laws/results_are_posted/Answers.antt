use Rattle.operator_laws.proofs.results.Posting as topic
use Rattle.operator_laws.proofs.laws.results_are_posted.Goals as goal

pub returns : goal.returns
returns c = topic.results_are_posted
