use Rattle.std.proofs.Common.{◌≡◌, ◌∙◌, ◌++◌, None, List, ℕ, string_bytes, refl, ap}
use Rattle.node_runs.specs.DoneLines.{malformed_line}
use Rattle.node_runs.specs.NodeTurns.{NoSetup}
use Rattle.node_runs.proofs.AfterLemmas.{of_ok}
use Rattle.node_runs.proofs.node_run.Program.refuse_setup.Goals as goal

pub returns-in-Ok : goal.returns-in-Ok
returns-in-Ok g c = λ line fails.
    let out = malformed_line 1 None c.args.fault in
    let wrote : string_bytes c.write_malformed-written.new.output ≡ string_bytes c.clear.new.self ++ out = of_ok c.write_malformed-written.result c.in-Ok.ensures.written c.write_malformed-written.ensures in
    let text = c.as_str.ensures.value ∙ wrote ∙ ap (λ (s : List ℕ). s ++ out) c.clear.ensures.bytes in
    let added = c.in-Ok.ensures.added ∙ ap (λ (s : List ℕ). string_bytes c.args.output.now ++ s) text in
    (out, added, NoSetup c.args.fault fails (λ e. absurd (cc (c.is_starved.ensures.1 e, c.if-is_starved.false))) refl refl c.self.view_is)
