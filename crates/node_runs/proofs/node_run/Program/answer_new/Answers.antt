use Rattle.std.proofs.Common.{◌∙◌, ℕ, string_bytes, ap, subst}
use Rattle.stored_nodes.specs.Keepers.{keeper_of}
use Rattle.node_runs.specs.Afters.{IsAfter}
use Rattle.node_runs.specs.NodeTurns.{Stage}
use Rattle.node_runs.specs.Stages.{GoesOnWith}
use Rattle.node_runs.proofs.node_run.Program.answer_new.Goals as goal

pub returns : goal.returns
returns g c =
    let keeper = keeper_of g.K.Keep.content g.K.Keep.is_honest g.K.Keep.refusals g.K.Keep.may_leave in
    let a = c.answer_behind_setup-after.result in
    let is = c.in-Some.ensures.1 ∙ ap (λ (w : Stage g.row.K.Denot). w.number) c.self.view_is in
    let left = subst (λ (n : ℕ). IsAfter keeper c.args.running n c.args.line.now (string_bytes c.args.output.now) (string_bytes c.answer_behind_setup-after.new.output) a) is c.answer_behind_setup-after.ensures in
    let goes = subst (λ (w : Stage g.row.K.Denot). GoesOnWith w a c.take_after.result c.take_after.new.self) c.self.view_is c.take_after.ensures in
    (a, left, goes)
