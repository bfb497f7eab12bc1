use Rattle.std.proofs.Common.{Some, refl, string_bytes}
use Rattle.replays.proofs.AnswerLemmas.{fault_due, malformed, on_ok}
use Rattle.replays.proofs.answering.Running.answer_element.Goals as goal

pub returns-in-Err : goal.returns-in-Err
returns-in-Err c =
    let now = c.args.self.now in
    on_ok c.tell_malformed.result (λ told read at.
    malformed now now c.args.number (Some c.args.place) read c.args.line.bytes.now (string_bytes c.args.text.now) (string_bytes c.tell_malformed.new.text) c.args.happened.now c.args.happened.now
    c.in-Err.fault (fault_due c.in-Err.fault read told.0 (c.in-Err.ensures read at)) told.0 told.1 refl refl) c.tell_malformed.ensures
