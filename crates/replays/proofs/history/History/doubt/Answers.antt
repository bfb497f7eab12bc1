use Rattle.std.proofs.Common.{◌∙◌, ap}
use Rattle.replays.proofs.HistoryLemmas.{doubts_of}
use Rattle.replays.specs.Reading.{Story}
use Rattle.replays.proofs.history.History.doubt.Goals as goal

pub returns-clause-doubts : goal.returns-clause-doubts
returns-clause-doubts c = λ at.
    let held = c.line-before.ensures ∙ ap (λ (s : Story). s.held.line) c.self.view_is in
    let after = c.answer.new in
    doubts_of c.args.running.now after.self c.args.line.bytes.now _ c.nothing-happened.result after.happened c.nothing-happened.ensures.entries c.nothing-happened.ensures.sources c.in_ok-answer.ensures
    c.line-before.result (held ∙ at) c.in_ok-self-inside.field-0 c.in_ok-self-inside.ensures.none c.in_ok-self-inside.ensures.some
