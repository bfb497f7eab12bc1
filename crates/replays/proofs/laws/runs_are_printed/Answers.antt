use Rattle.replays.proofs.OutputRuns as runs
use Rattle.replays.proofs.laws.runs_are_printed.Goals as goal

pub returns : goal.returns
returns c = runs.runs_are_printed
