use Rattle.std.proofs.Common.{◌≢◌, Option, IfErr, IfOk, subst}
use Rattle.line_runs.specs.Run.{Begins, Outputs, StopsReading}
use Rattle.line_runs.specs.declared.outcome.RunFault.TheVariants.{WriteFailed}
use Rattle.node_programs.specs.Answer.{Answering, EndGives, LineGives}
use Rattle.node_programs.proofs.answer.run_answer.Goals as goal

-- it begins without an operator, and ends with the one that is handed out
pub returns-clause-output : goal.returns-clause-output
returns-clause-output g c =
    rw (c.close.ensures) (subst (λ (first : Option Answering). IfOk c.run_whole-ran.result (λ ran. Outputs LineGives EndGives first (g.R.Read.remaining c.args.input.now.reader) ran
    (g.W.Write.contents c.args.writer.now) (g.W.Write.contents c.run_whole-ran.new.writer) c.run_whole-ran.new.machine)) c.new-answering.ensures c.run_whole-ran.ensures.output)

pub returns-clause-begun : goal.returns-clause-begun
returns-clause-begun g c =
    rw (c.close.ensures) (subst (λ (first : Option Answering). IfErr c.run_whole-ran.result (λ fault. Begins LineGives EndGives first (g.R.Read.remaining c.args.input.now.reader)
    (g.W.Write.contents c.args.writer.now) (g.W.Write.contents c.run_whole-ran.new.writer) c.run_whole-ran.new.machine)) c.new-answering.ensures c.run_whole-ran.ensures.begun)

pub returns-clause-stopped : goal.returns-clause-stopped
returns-clause-stopped g c =
    rw (c.close.ensures) (subst (λ (first : Option Answering). IfErr c.run_whole-ran.result (λ fault. fault ≢ WriteFailed → StopsReading LineGives first fault (g.R.Read.remaining c.args.input.now.reader)
    (g.R.Read.remaining c.run_whole-ran.new.input.reader) (g.W.Write.contents c.args.writer.now) (g.W.Write.contents c.run_whole-ran.new.writer) c.run_whole-ran.new.machine)) c.new-answering.ensures c.run_whole-ran.ensures.stopped)
