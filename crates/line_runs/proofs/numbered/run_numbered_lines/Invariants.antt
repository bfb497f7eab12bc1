use Rattle.line_runs.proofs.NumberedLemmas.{NumberedProgress}
use Rattle.line_runs.proofs.numbered.run_numbered_lines.Given as goal

-- how far the run has come
abbrev pub invariant-loop-read : goal.invariant-loop-read
invariant-loop-read g l =
    NumberedProgress g.M.AnswerNumbered.line_gives g.M.AnswerNumbered.end_gives l.fn.echo l.fn.machine (g.R.Read.remaining l.fn.input.reader) (g.W.Write.contents l.fn.writer)
    l.read l.ran l.machine (g.R.Read.remaining l.input.reader) (g.W.Write.contents l.writer)
