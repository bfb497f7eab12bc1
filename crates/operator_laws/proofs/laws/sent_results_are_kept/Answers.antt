use Rattle.operator_laws.proofs.results.Posting as topic
use Rattle.operator_laws.proofs.laws.sent_results_are_kept.Goals as goal

pub returns : goal.returns
returns c = topic.sent_results_are_kept
