use Rattle.std.proofs.Common.{◌∙◌, string_bytes, sym, ap, subst}
use Rattle.ocpi_text.specs.Text.{key}
use Rattle.stored_nodes.specs.Keepers.{keeper_of}
use Rattle.node_runs.specs.Afters.{IsAnswered}
use Rattle.node_runs.specs.NodeTurns.{Running}
use Rattle.node_runs.proofs.NodeLemmas.{answered_applied, answered_fault}
use Rattle.node_runs.proofs.event_lines.answer_own.Goals as goal

pub returns : goal.returns
returns g c = λ line read.
    let K = g.row.K.Denot in
    let keeper = keeper_of g.K.Keep.content g.K.Keep.is_honest g.K.Keep.refusals g.K.Keep.may_leave in
    let now : Running K = record { party = c.running.inside.party; node = c.running.inside.node } in
    let same = c.requires ∙ ap (λ (w : Running K). key w.party) (sym c.running.view_is) in
    subst (λ (w : Running K). IsAnswered keeper w c.args.number line (string_bytes c.args.text.now) (string_bytes c.tell_applied.new.text) c.tell_applied.result (record { party = c.running.inside.party; node = c.apply.new.self }))
    c.running.view_is
    (answered_applied keeper now c.args.number line c.args.event.now read (string_bytes c.args.text.now) (string_bytes c.tell_applied.new.text) c.tell_applied.result same c.apply.new.self c.in-Ok.applied c.in-Ok.ensures.ok
    c.tell_applied.ensures)

pub returns-in-Err : goal.returns-in-Err
returns-in-Err g c = λ line read.
    let K = g.row.K.Denot in
    let keeper = keeper_of g.K.Keep.content g.K.Keep.is_honest g.K.Keep.refusals g.K.Keep.may_leave in
    let now : Running K = record { party = c.running.inside.party; node = c.running.inside.node } in
    let same = c.requires ∙ ap (λ (w : Running K). key w.party) (sym c.running.view_is) in
    subst (λ (w : Running K). IsAnswered keeper w c.args.number line (string_bytes c.args.text.now) (string_bytes c.tell_fault.new.text) c.tell_fault.result (record { party = c.running.inside.party; node = c.apply.new.self }))
    c.running.view_is
    (answered_fault keeper now c.args.number line c.args.event.now read (string_bytes c.args.text.now) (string_bytes c.tell_fault.new.text) c.tell_fault.result same c.apply.new.self c.in-Err.fault c.in-Err.ensures.err
    c.tell_fault.ensures)
