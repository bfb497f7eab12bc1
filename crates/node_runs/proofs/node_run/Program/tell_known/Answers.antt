use Rattle.std.proofs.Common.{◌≡◌, ◌∙◌, ◌++◌, List, ℕ, string_bytes, OnOk, sym, ap, subst}
use Rattle.line_runs.specs.declared.run.Turn.TheVariants.{Taken}
use Rattle.node_runs.specs.DoneLines.{known_line}
use Rattle.node_runs.specs.NodeTurns.{Stage}
use Rattle.node_runs.specs.Stages.{GoesOnWith}
use Rattle.node_runs.proofs.AfterLemmas.{told_as}
use Rattle.node_runs.proofs.node_run.Program.tell_known.Goals as goal

pub returns : goal.returns
returns g c =
    let number = c.args.self.now.number in
    let out = known_line number in
    let a = c.tell_written-after.result in
    let is = c.value.ensures.value ∙ ap (λ (w : Stage g.row.K.Denot). w.number) c.self.view_is in
    let wrote = subst (λ (n : ℕ). OnOk c.write_known-written.result (string_bytes c.write_known-written.new.output ≡ string_bytes c.clear.new.self ++ known_line n)) is c.write_known-written.ensures in
    let whole = subst (λ (s : List ℕ). OnOk c.write_known-written.result (c.as_str.result.now ≡ s ++ out)) c.clear.ensures.bytes
    (subst (λ (s : List ℕ). OnOk c.write_known-written.result (s ≡ string_bytes c.clear.new.self ++ out)) (sym c.as_str.ensures.value) wrote) in
    let told = told_as c.args.running Taken c.as_str.result.now out (string_bytes c.args.output.now) (string_bytes c.tell_written-after.new.output) c.write_known-written.result a
    c.tell_written-after.ensures.told c.tell_written-after.ensures.written whole in
    let goes = subst (λ (w : Stage g.row.K.Denot). GoesOnWith w a c.take_after.result c.take_after.new.self) c.self.view_is c.take_after.ensures in
    (a, told, goes)
