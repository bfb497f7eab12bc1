use Rattle.std.proofs.Common.{◌∙◌, ◌++◌, [], None, Err, refl, ap, string_bytes}
use Rattle.node_runs.specs.DoneLines.{malformed_line}
use Rattle.replays.proofs.AnswerLemmas.{fault_due, malformed, on_ok}
use Rattle.replays.proofs.LineLemmas.{one_event, one_of_fault}
use Rattle.replays.proofs.answering.Running.answer_new.Goals as goal

pub returns-in-Ok : goal.returns-in-Ok
returns-in-Ok c = on_ok c.answer_held.result (λ done. done c.in-Ok.ensures.exact) c.answer_held.ensures

pub returns-in-Err : goal.returns-in-Err
returns-in-Err c =
    let now = c.args.self.now in
    let line = c.args.line.bytes.now in
    let fault = c.in-Err.fault in
    let text = string_bytes c.tell_malformed.new.text in
    let first = c.args.happened.now in
    on_ok c.tell_malformed.result (λ told.
    one_event now now c.args.number line text first first (Err fault) (one_of_fault fault line (fault_due fault _ told.0 c.in-Err.ensures.exact))
    (malformed now now c.args.number None (Err fault) line [] text first first fault refl told.0 (told.1 ∙ ap (λ t. t ++ malformed_line c.args.number None fault) c.requires.text) refl refl)) c.tell_malformed.ensures
