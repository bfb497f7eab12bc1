use Rattle.std.proofs.Common.{◌++◌, ◌∙◌, ap, ap₂, subst, sym, take, length}
use Rattle.node_runs.specs.DoneLines.{opened_line}
use Rattle.stored_laws.specs.Nodes.{last_serial}
use Rattle.replays.specs.Reading.{Fits}
use Rattle.replays.proofs.FitLemmas.{made_over}
use Rattle.replays.proofs.opening.try_member.Goals as goal

pub returns-then-not-may_fit : goal.returns-then-not-may_fit
returns-then-not-may_fit c = λ state over fits.
    let held = c.args.held.now in
    let front = c.in_ok-front.ensures (last_serial state) in
    c.may_fit.ensures c.if-not-may_fit.true front.0 front.1
    (subst (λ l. Fits c.args.piece.is_closed c.args.piece.bytes.now l)
    (ap₂ (λ p n. opened_line held.line p n (last_serial state)) (sym c.party.ensures) (ap length over.lists) ∙ front.2 ∙ ap (λ t. take c.in_ok-front.front t ++ front.0) (sym c.as_str.ensures.value) ∙ ap (λ l. l ++ front.0) (sym c.front_of.ensures)) fits)

pub returns-in-Ok : goal.returns-in-Ok
returns-in-Ok c =
    made_over c.args.nodes.now c.args.member.now c.args.held.now c.in_ok-rows.rows.items c.in_ok-rows.ensures c.in-Ok.node c.args.piece.is_closed c.args.piece.bytes.now c.try_node.result c.in-Ok.ensures.made
    c.can_start_again.ensures c.in-Ok.ensures.again c.try_node.ensures
