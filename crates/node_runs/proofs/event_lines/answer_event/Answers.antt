use Rattle.std.proofs.Common.{string_bytes, subst}
use Rattle.stored_nodes.specs.Keepers.{keeper_of}
use Rattle.node_runs.specs.Afters.{IsAnswered}
use Rattle.node_runs.specs.NodeTurns.{Running}
use Rattle.node_runs.proofs.NodeLemmas.{answered_elsewhere}
use Rattle.node_runs.proofs.event_lines.answer_event.Goals as goal

pub returns-then-not-is_same : goal.returns-then-not-is_same
returns-then-not-is_same g c = λ line read.
    let keeper = keeper_of g.K.Keep.content g.K.Keep.is_honest g.K.Keep.refusals g.K.Keep.may_leave in
    subst (λ (w : Running g.row.K.Denot). IsAnswered keeper w c.args.number line (string_bytes c.args.text.now) (string_bytes c.tell_elsewhere.new.text) c.tell_elsewhere.result w) c.running.view_is
    (answered_elsewhere keeper (record { party = c.running.inside.party; node = c.running.inside.node }) c.args.number line c.args.event.now read (string_bytes c.args.text.now) (string_bytes c.tell_elsewhere.new.text)
    c.tell_elsewhere.result (λ e. absurd (cc (c.is_same.ensures.1 e, c.if-not-is_same.true))) c.tell_elsewhere.ensures)
