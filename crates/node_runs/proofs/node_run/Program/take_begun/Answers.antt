use Rattle.std.proofs.Common.{◌≡◌, ◌∙◌, ◌++◌, List, ℕ, Some, string_bytes, refl, ap}
use Rattle.stored_laws.specs.Nodes.{last_serial}
use Rattle.node_runs.specs.DoneLines.{opened_line}
use Rattle.node_runs.specs.NodeTurns.{Running, Stage}
use Rattle.node_runs.specs.Stages.{IsTold, begun_stage}
use Rattle.node_runs.proofs.AfterLemmas.{of_ok}
use Rattle.node_runs.proofs.node_run.Program.take_begun.Goals as goal

pub returns-in-Ok : goal.returns-in-Ok
returns-in-Ok g c =
    let K = g.row.K.Denot in
    let b = c.args.begun in
    let before = string_bytes c.args.output.now in
    let party : c.running.inside.party ≡ b.running.party = ap (λ (r : Running K). r.party) c.running.view_is in
    let serial : c.last_serial-serial.result ≡ last_serial b.running.node.state =
    c.last_serial-serial.ensures ∙ ap last_serial (c.node.ensures ∙ ap (λ (r : Running K). r.node.state) c.running.view_is) in
    let told : List ℕ = opened_line c.value.result c.running.inside.party b.rows c.last_serial-serial.result in
    let out : List ℕ = opened_line b.line b.running.party b.rows (last_serial b.running.node.state) in
    let same : told ≡ out = λ i. opened_line (c.value.ensures.value i) (party i) b.rows (serial i) in
    let wrote : string_bytes c.write_opened-written.new.output ≡ string_bytes c.clear.new.self ++ told = of_ok c.write_opened-written.result c.in-Ok.ensures.written c.write_opened-written.ensures in
    let text : c.as_str.result.now ≡ out = c.as_str.ensures.value ∙ wrote ∙ ap (λ (s : List ℕ). s ++ told) c.clear.ensures.bytes ∙ same in
    let added = c.in-Ok.ensures.added ∙ ap (λ (s : List ℕ). before ++ s) text in
    let stage : ℕ → Stage K = λ n. record {
      wanted = c.self.inside.wanted;
      opened = g.S.Keeps.opened c.self.inside.keeps;
      running = Some b.running;
      spare = c.self.inside.spare;
      stop = c.self.inside.stop;
      number = n;
      known = b.line;
    } in
    IsTold refl added (ap stage c.number_from-self-inside.ensures ∙ ap (λ (w : Stage K). begun_stage w b c.args.base w.stop) c.self.view_is)
