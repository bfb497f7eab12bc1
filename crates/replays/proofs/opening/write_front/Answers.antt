use Rattle.std.proofs.Common.{◌-◌, ◌∙◌, ap, length, string_bytes}
use Rattle.node_runs.specs.DoneLines.{opened_line}
use Rattle.replays.proofs.FitLemmas.{same_front}
use Rattle.replays.proofs.opening.write_front.Goals as goal

pub returns : goal.returns
returns c =
    let held = c.args.held.now in
    let party = c.args.party.now in
    same_front held.line party (length held.rows) (string_bytes c.write_over.new.text) c.saturating_sub.result
    (c.in_ok-write_over.ensures ∙ ap (λ n. opened_line held.line party (length held.rows) n) c.no_serial.ensures)
    (c.saturating_sub.ensures ∙ ap (λ n. n - 3) (ap length c.as_bytes.ensures.value))
