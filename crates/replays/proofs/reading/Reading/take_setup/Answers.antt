use Rattle.std.proofs.Common.{IfSome, subst}
use Rattle.replays.proofs.AnswerLemmas.{on_ok}
use Rattle.replays.proofs.ResultLemmas.{on_err}
use Rattle.replays.proofs.SetupRead.{begun_differs, begun_taken}
use Rattle.replays.specs.Answering.{shown}
use Rattle.replays.specs.RunParts.{BegunBehind}
use Rattle.replays.specs.Transcripts.{line_of}
use Rattle.replays.proofs.reading.Reading.take_setup.Goals as goal

pub returns-in-Ok-Some-clause-ok : goal.returns-in-Ok-Some-clause-ok
returns-in-Ok-Some-clause-ok c =
    let b = c.args.behind in
    let now = c.in-Ok-Some.running in
    let begun = subst (λ o. IfSome o (BegunBehind c.args.self.now c.open.new.self c.args.setup c.args.base b)) c.in-Ok-Some.field-0-is c.in-Ok-Some.ensures.some in
    on_ok c.take_lines.result (λ lines. begun_taken c.args.self.now c.open.new.self b.line.bytes.now c.args.setup c.args.base b.piece.bytes.now b.piece.is_closed b.rest.now
    (shown now) now.opening b.is_ended c.take_lines.new.self begun lines) c.take_lines.ensures.ok

pub returns-in-Ok-Some-clause-err : goal.returns-in-Ok-Some-clause-err
returns-in-Ok-Some-clause-err c =
    let b = c.args.behind in
    let now = c.in-Ok-Some.running in
    let begun = subst (λ o. IfSome o (BegunBehind c.args.self.now c.open.new.self c.args.setup c.args.base b)) c.in-Ok-Some.field-0-is c.in-Ok-Some.ensures.some in
    on_err c.take_lines.result (λ f differs real. begun_differs c.args.self.now c.open.new.self b.line.bytes.now c.args.setup c.args.base b.piece.bytes.now b.piece.is_closed b.rest.now
    (shown now) now.opening b.line.number (line_of f) begun (differs real)) c.take_lines.ensures.err
