use Rattle.histories.proofs.Excluding as laws
use Rattle.histories.proofs.laws.never_sent_excludes.Goals as goal

pub returns : goal.returns
returns c = laws.never_sent_excludes
