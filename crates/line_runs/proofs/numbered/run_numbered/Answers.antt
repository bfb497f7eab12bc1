use Rattle.line_runs.proofs.NumberedLemmas.{begun_either}
use Rattle.line_runs.proofs.numbered.run_numbered.Goals as goal

pub returns-clause-begun : goal.returns-clause-begun
returns-clause-begun g c =
    begun_either g.M.AnswerNumbered.line_gives g.M.AnswerNumbered.end_gives c.args.echo c.args.machine.now c.run_numbered_lines-ran.result _ _ _ _ _ c.run_numbered_lines-ran.ensures.output
    c.run_numbered_lines-ran.ensures.begun c.flush.ensures.writer
