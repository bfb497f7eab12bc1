use Rattle.history_laws.proofs.Running as laws
use Rattle.history_laws.proofs.laws.interleavings_are_runs.Goals as goal

pub returns : goal.returns
returns c = laws.interleavings_are_runs
