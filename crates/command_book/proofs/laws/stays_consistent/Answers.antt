use Rattle.command_book.proofs.CallRuns as runs
use Rattle.command_book.proofs.laws.stays_consistent.Goals as goal

pub returns : goal.returns
returns c = runs.stays_consistent
