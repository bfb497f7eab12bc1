use Rattle.receipts.proofs.Excluding.{faults_exclude}
use Rattle.receipts.proofs.laws.faults_exclude.Goals as goal

pub returns : goal.returns
returns c = faults_exclude
