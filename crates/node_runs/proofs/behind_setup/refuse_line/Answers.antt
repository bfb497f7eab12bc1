use Rattle.std.proofs.Common.{◌≡◌, ◌∙◌, ◌++◌, None, List, ℕ, string_bytes, OnOk, sym, subst}
use Rattle.line_runs.specs.declared.run.Turn.TheVariants.{Refused}
use Rattle.stored_nodes.specs.Keepers.{keeper_of}
use Rattle.node_runs.specs.DoneLines.{malformed_line}
use Rattle.node_runs.proofs.AfterLemmas.{told_after, told_as}
use Rattle.node_runs.proofs.NodeLemmas.{malformed}
use Rattle.node_runs.proofs.behind_setup.refuse_line.Goals as goal

pub returns : goal.returns
returns g c = λ fails.
    let keeper = keeper_of g.K.Keep.content g.K.Keep.is_honest g.K.Keep.refusals g.K.Keep.may_leave in
    let now = c.args.running in
    let out = malformed_line c.args.number None c.args.fault in
    let before = string_bytes c.args.output.now in
    let after = string_bytes c.tell_written.new.output in
    let whole = subst (λ (s : List ℕ). OnOk c.write_malformed-written.result (c.as_str.result.now ≡ s ++ out)) c.requires
    (subst (λ (s : List ℕ). OnOk c.write_malformed-written.result (s ≡ string_bytes c.args.text.now ++ out)) (sym c.as_str.ensures.value)
    (subst (λ (n : ℕ). OnOk c.write_malformed-written.result (string_bytes c.write_malformed-written.new.output ≡ string_bytes c.args.text.now ++ malformed_line n None c.args.fault))
    (c.value-2.ensures.value ∙ c.value.ensures.value) c.write_malformed-written.ensures)) in
    let told = told_as now Refused c.as_str.result.now out before after c.write_malformed-written.result c.tell_written.result c.tell_written.ensures.told c.tell_written.ensures.written whole in
    told_after keeper now now c.args.number c.args.line.now Refused out before after c.tell_written.result
    (malformed keeper now c.args.number c.args.line.now c.args.fault fails (λ e. absurd (cc (c.is_starved.ensures.1 e, c.if-is_starved.false)))) c.is_stored.ensures c.is_stored.ensures told
