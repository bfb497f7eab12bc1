use Rattle.std.proofs.Common.{◌∙◌, ap, subst, sym, length}
use Rattle.node_runs.specs.DoneLines.{opened_line}
use Rattle.replays.proofs.FitLemmas.{line_tried, opened_closed}
use Rattle.replays.specs.LineTurns.{held_in}
use Rattle.replays.specs.Ways.{IsClosed}
use Rattle.replays.proofs.opening.try_node.Goals as goal

pub fit_node-requires-clause-line : goal.fit_node-requires-clause-line
fit_node-requires-clause-line c =
    let held = c.args.held.now in
    subst IsClosed (sym (c.as_bytes.ensures.value ∙ c.in-Ok.ensures)) (opened_closed held.line c.party.result.now (length held.rows) c.last_serial-serial.result)

pub returns-in-Ok : goal.returns-in-Ok
returns-in-Ok c =
    let held = c.args.held.now in
    let line = c.as_bytes.ensures.value ∙ c.in-Ok.ensures in
    line_tried c.args.member.now (held_in held) held.rows c.args.node c.as_bytes.result.now c.last_serial-serial.result c.args.piece.is_closed c.args.piece.bytes.now c.fit_node.result
    (line ∙ ap (λ p. opened_line held.line p (length held.rows) c.last_serial-serial.result) c.party.ensures) c.last_serial-serial.ensures c.fit_node.ensures
