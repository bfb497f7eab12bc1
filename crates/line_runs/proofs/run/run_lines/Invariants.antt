use Rattle.line_runs.proofs.RunLemmas.{Progress}
use Rattle.line_runs.proofs.run.run_lines.Given as goal

-- how far the run has come
abbrev pub invariant-loop-read : goal.invariant-loop-read
invariant-loop-read g l = Progress g.M.AnswerLines.line_gives g.M.AnswerLines.end_gives l.fn.machine (g.R.Read.remaining l.fn.input.reader) (g.W.Write.contents l.fn.writer)
    l._read l.ran l.machine (g.R.Read.remaining l.input.reader) (g.W.Write.contents l.writer)
