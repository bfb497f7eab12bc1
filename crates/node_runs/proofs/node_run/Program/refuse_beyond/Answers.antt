use Rattle.std.proofs.Common.{◌≡◌, ◌++◌, None, List, ℕ, string_bytes, OnOk, sym, subst}
use Rattle.line_runs.specs.declared.run.Turn.TheVariants.{Refused}
use Rattle.node_steps.specs.declared.fault.NodeFault.TheVariants.{NumbersUsedUp}
use Rattle.ocpi_text.specs.Whole.{max_whole}
use Rattle.node_runs.specs.DoneLines.{refused_line}
use Rattle.node_runs.specs.NodeTurns.{Stage}
use Rattle.node_runs.specs.Stages.{GoesOnWith}
use Rattle.node_runs.proofs.AfterLemmas.{told_as}
use Rattle.node_runs.proofs.node_run.Program.refuse_beyond.Goals as goal

pub returns : goal.returns
returns g c =
    let out = refused_line max_whole None NumbersUsedUp in
    let a = c.tell_written-after.result in
    let whole = subst (λ (s : List ℕ). OnOk c.write_refused-written.result (c.as_str.result.now ≡ s ++ out)) c.clear.ensures.bytes
    (subst (λ (s : List ℕ). OnOk c.write_refused-written.result (s ≡ string_bytes c.clear.new.self ++ out)) (sym c.as_str.ensures.value) c.write_refused-written.ensures) in
    let told = told_as c.args.running Refused c.as_str.result.now out (string_bytes c.args.output.now) (string_bytes c.tell_written-after.new.output) c.write_refused-written.result a
    c.tell_written-after.ensures.told c.tell_written-after.ensures.written whole in
    let goes = subst (λ (w : Stage g.row.K.Denot). GoesOnWith w a c.take_after.result c.take_after.new.self) c.self.view_is c.take_after.ensures in
    (a, told, goes)
