use Rattle.command_book.proofs.CallRuns as runs
use Rattle.command_book.proofs.laws.results_stay.Goals as goal

pub returns : goal.returns
returns c = runs.results_stay
