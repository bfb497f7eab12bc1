use Rattle.std.proofs.Common.{[], arith, refl}
use Rattle.std.proofs.KnownBytes.{Consumes-nil}
use Rattle.line_runs.specs.Numbered.{NumberedBegins, NumberedOutputs, NumberedStops}
use Rattle.node_runs.specs.NodeOutputs as outputs
use Rattle.node_runs.proofs.BeginLemmas.{cut_behind, ran_behind, stopped_behind}
use Rattle.node_runs.proofs.begun_run.run_begun.Goals as goal

pub returns-in-Ok-clause-output : goal.returns-in-Ok-clause-output
returns-in-Ok-clause-output g c =
    ran_behind c.args.echo _ _ c.in-Ok.ensures.ok c.run_numbered.result
    (λ ran begun. NumberedOutputs g.M.AnswerNumbered.line_gives g.M.AnswerNumbered.end_gives c.args.echo c.args.machine.now (g.R.Read.remaining c.args.input.now.reader)
    ran begun (g.W.Write.contents c.run_numbered.new.writer) c.run_numbered.new.machine) c.run_numbered.ensures.output

pub returns-in-Ok-clause-begun : goal.returns-in-Ok-clause-begun
returns-in-Ok-clause-begun g c =
    cut_behind c.args.echo _ _ c.in-Ok.ensures.ok c.run_numbered.result
    (NumberedBegins g.M.AnswerNumbered.line_gives g.M.AnswerNumbered.end_gives c.args.echo c.args.machine.now (g.R.Read.remaining c.args.input.now.reader))
    c.args.machine.now c.run_numbered.new.machine (g.W.Write.contents c.run_numbered.new.writer) c.run_numbered.ensures.begun

pub returns-in-Ok-clause-stopped : goal.returns-in-Ok-clause-stopped
returns-in-Ok-clause-stopped g c =
    stopped_behind c.args.echo _ _ c.in-Ok.ensures.ok c.run_numbered.result
    (λ fault begun. NumberedStops g.M.AnswerNumbered.line_gives c.args.echo c.args.machine.now fault (g.R.Read.remaining c.args.input.now.reader)
    (g.R.Read.remaining c.run_numbered.new.input.reader) begun (g.W.Write.contents c.run_numbered.new.writer) c.run_numbered.new.machine) c.run_numbered.ensures.stopped

pub returns-in-Err-clause-begun : goal.returns-in-Err-clause-begun
returns-in-Err-clause-begun g c = outputs.Cut c.in-Err.ensures.err.1 c.in-Err.ensures.err.2 refl

pub returns-in-Err-clause-stopped : goal.returns-in-Err-clause-stopped
returns-in-Err-clause-stopped g c = λ other. absurd (other c.in-Err.ensures.err.0)

pub returns-in-Err-clause-reads : goal.returns-in-Err-clause-reads
returns-in-Err-clause-reads g c = ([], Consumes-nil (g.R.Read.remaining c.args.input.now.reader), omega arith)
