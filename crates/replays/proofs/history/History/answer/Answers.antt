use Rattle.std.proofs.Common.{◌++◌, ◌∙◌, ap}
use Rattle.replays.proofs.AnswerLemmas.{on_ok}
use Rattle.replays.specs.Happenings.{came_by, entries_behind}
use Rattle.replays.specs.Reading.{Story}
use Rattle.replays.proofs.history.History.answer.Goals as goal

pub returns : goal.returns
returns c = on_ok c.answer.result (λ done. record {
  entered = done.entered;
  did = done.did;
  gives = done.gives;
  opening = done.opening;
  held = ap (λ (s : Story). s.held) c.self.view_is;
  doubt = ap (λ (s : Story). s.doubt) c.self.view_is;
  openings = ap (λ (s : Story). s.openings) c.self.view_is;
  entries = done.enters.entries ∙ ap (λ (s : Story). s.entries ++ entries_behind (came_by c.args.line.bytes.now done.entered)) c.self.view_is;
  added = done.enters.added;
  sources = done.enters.sources ∙ ap (λ (s : Story). s.sources ++ done.enters.added) c.self.view_is;
  from = done.enters.from;
}) c.answer.ensures
