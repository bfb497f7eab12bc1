use Rattle.std.proofs.Common.{◌∙◌, None, Ok, refl, ap, subst, string_bytes}
use Rattle.replays.specs.Answering.{EventDone}
use Rattle.replays.proofs.AnswerLemmas.{on_ok}
use Rattle.replays.proofs.LineLemmas.{one_event, several_events}
use Rattle.replays.proofs.answering.Running.answer_held.Goals as goal

pub returns-in-One : goal.returns-in-One
returns-in-One c =
    let now = c.args.self.now in
    let line = c.args.line.bytes.now in
    let after = c.answer_event.new in
    on_ok c.answer_event.result (λ done is.
    one_event now after.self c.args.number line (string_bytes after.text) c.args.happened.now after.happened (Ok c.in-One.event) (is ∙ ap (λ h. Ok h) c.in-One.is)
    (subst (λ t. EventDone now after.self c.args.number None (Ok c.in-One.event) line t (string_bytes after.text) c.args.happened.now after.happened) c.requires.text (done (Ok c.in-One.event) refl))) c.answer_event.ensures

pub returns-in-Several : goal.returns-in-Several
returns-in-Several c =
    let after = c.answer_all-answered.new in
    on_ok c.answer_all-answered.result (λ done is.
    several_events c.args.self.now after.self c.args.number c.args.line.bytes.now (string_bytes after.text) c.args.happened.now after.happened c.in-Several.elements (is ∙ ap (λ h. Ok h) c.in-Several.is) (done (is ∙ ap (λ h. Ok h) c.in-Several.is))) c.answer_all-answered.ensures
