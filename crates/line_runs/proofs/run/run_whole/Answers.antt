use Rattle.line_runs.proofs.RunLemmas.{begun_either}
use Rattle.line_runs.proofs.run.run_whole.Goals as goal

pub returns-clause-begun : goal.returns-clause-begun
returns-clause-begun g c =
    begun_either g.M.AnswerLines.line_gives g.M.AnswerLines.end_gives c.args.machine.now c.run_lines-ran.result _ _ _ _ _ c.run_lines-ran.ensures.output c.run_lines-ran.ensures.begun c.flush.ensures.writer
