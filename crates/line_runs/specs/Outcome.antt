-- How a run went, what is said of one that was stopped, and the exit status.
use Rattle.std.specs.Prelude.{ℕ, List, Result, Ok, Err, codes}
use Rattle.line_runs.specs.declared.outcome.Ran.{Ran}
use Rattle.line_runs.specs.declared.outcome.Ran.TheVariants.{Whole, WithRefusals}
use Rattle.line_runs.specs.declared.outcome.RunFault.{RunFault}
use Rattle.line_runs.specs.declared.outcome.RunFault.TheVariants.{ReadFailed, WriteFailed, TooManyReads}

-- of a run and what followed it: whole where both are
abbrev pub both_ran : Ran → Ran → Ran
both_ran Whole later = later
both_ran WithRefusals later = WithRefusals

-- what standard error says of what stopped a run
abbrev pub fault_text : RunFault → List ℕ
fault_text ReadFailed = codes "input: read failed"
fault_text WriteFailed = codes "output: write failed"
fault_text TooManyReads = codes "input: too many reads"

-- 0 where no line was refused; 1 where one was, or where reading or writing failed
abbrev pub exit_status : Result Ran RunFault → ℕ
exit_status (Ok Whole) = 0
exit_status (Ok WithRefusals) = 1
exit_status (Err fault) = 1
