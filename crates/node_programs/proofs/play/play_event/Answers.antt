use Rattle.std.proofs.Common.{refl}
use Rattle.std.proofs.lemmas.Result.{IfOk-weaker}
use Rattle.line_runs.specs.declared.run.Turn.TheVariants.{Refused}
use Rattle.node_programs.specs.Play.{Unread, line_refusal}
use Rattle.program_lines.proofs.FaultLemmas.{if_err_then, of_each}
use Rattle.node_programs.proofs.play.play_event.Goals as goal

pub returns-in_ok-refuse_line-in-Err-clause-ok : goal.returns-in_ok-refuse_line-in-Err-clause-ok
returns-in_ok-refuse_line-in-Err-clause-ok g c =
    let fault = c.in-Err.fault in
    (line_refusal c.args.number fault, c.in_ok-refuse_line-in-Err.ensures, Unread fault c.in-Err.ensures.exact refl refl refl)

-- the refusal was not spelled
pub returns-in_err-refuse_line-in-Err-clause-err : goal.returns-in_err-refuse_line-in-Err-clause-err
returns-in_err-refuse_line-in-Err-clause-err g c =
    let fault = c.in-Err.fault in
    of_each c.from_residual.result (Refused, line_refusal c.args.number fault, Unread fault c.in-Err.ensures.exact refl refl refl)

pub returns-in-Ok-clause-ok : goal.returns-in-Ok-clause-ok
returns-in-Ok-clause-ok g c =
    IfOk-weaker c.play_read.result _ _ (λ turn r. (r.0, r.1, r.2 c.args.line.now c.in-Ok.ensures.exact)) c.play_read.ensures.ok

pub returns-in-Ok-clause-err : goal.returns-in-Ok-clause-err
returns-in-Ok-clause-err g c =
    if_err_then _ _ c.play_read.result (λ _ r. (r.0, r.1, r.2 c.args.line.now c.in-Ok.ensures.exact)) c.play_read.ensures.err
