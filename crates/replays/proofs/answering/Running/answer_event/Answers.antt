use Rattle.std.proofs.Common.{◌++◌, ◌∙◌, IsTrue, ap, refl, string_bytes}
use Rattle.node_runs.specs.DoneLines.{skipped_line}
use Rattle.replays.proofs.AnswerLemmas.{declined_done, elsewhere, on_ok, replayed_done}
use Rattle.replays.proofs.answering.Running.answer_event.Goals as goal

pub returns-then-not-is_same : goal.returns-then-not-is_same
returns-then-not-is_same c =
    let now = c.args.self.now in
    let text = string_bytes c.args.text.now in
    on_ok c.write_skipped.result (λ written read is.
    elsewhere now now c.args.number c.args.place read c.args.line.bytes.now text (string_bytes c.write_skipped.new.output) c.args.happened.now c.args.happened.now c.args.event is
    (λ e. absurd (cc (c.is_same.ensures.1 e, c.if-not-is_same.true))) (written ∙ ap (λ n. text ++ skipped_line n c.args.place) c.value.ensures.value) refl refl) c.write_skipped.ensures

pub returns-in-Ok : goal.returns-in-Ok
returns-in-Ok c =
    let now = c.args.self.now in
    let yes : IsTrue c.is_same.result = cc (c.if-not-is_same.false) in
    let same = c.is_same.ensures.0 yes in
    on_ok c.tell_replayed.result (λ told read is.
    replayed_done c.in-Ok.replayed now _ c.tell_replayed.new.self c.args.number c.args.place read c.args.line (string_bytes c.args.text.now) (string_bytes c.tell_replayed.new.text) c.args.happened.now _ c.tell_replayed.new.happened
    c.args.event (record { is = is; same = same }) c.in-Ok.ensures.ok (record { party = refl; known = refl; number = refl; opening = refl }) refl refl told) c.tell_replayed.ensures

pub returns-in-Err : goal.returns-in-Err
returns-in-Err c =
    let now = c.args.self.now in
    let yes : IsTrue c.is_same.result = cc (c.if-not-is_same.false) in
    let same = c.is_same.ensures.0 yes in
    on_ok c.tell_declined.result (λ told read is.
    declined_done c.in-Err.fault now _ c.args.number c.args.place read c.args.line.bytes.now (string_bytes c.args.text.now) (string_bytes c.tell_declined.new.text) c.args.happened.now _
    c.args.event (record { is = is; same = same }) c.in-Err.ensures.err c.in-Err.ensures.state refl (record { party = refl; known = refl; number = refl; opening = refl }) c.in-Err.ensures.entries refl told) c.tell_declined.ensures
