use Rattle.std.proofs.Common.{List, ℕ, subst}
use Rattle.std.proofs.lemmas.Result.{err_from_is_err_and}
use Rattle.node_steps.specs.Peers.{HasPeer}
use Rattle.operator_stored.proofs.TellingSessions.{charge_claimed, charge_may, session_nowhere, session_of_other_money, session_of_stranger}
use Rattle.operator_stored.proofs.sessions.may_charge.Goals as goal

pub returns-then-not-is_provider : goal.returns-then-not-is_provider
returns-then-not-is_provider c = session_of_stranger c.args.books.now.state c.args.session.now c.requires.live
    (subst (λ (k : List ℕ). ¬ HasPeer c.args.books.now.state.providers k) c.key.ensures c.if-not-is_provider.ensures)

pub returns-in_err-check_connector : goal.returns-in_err-check_connector
returns-in_err-check_connector c =
    let p = err_from_is_err_and c.from_residual.result c.from_residual.ensures.1 in
    rw (p.1, p.2)
    (session_nowhere c.args.books.now.state c.args.session.now c.key-evse.result _ c.key-evse.ensures c.requires.live c.in_err-check_connector.ensures.not)

pub returns-then-not-is_of_currency : goal.returns-then-not-is_of_currency
returns-then-not-is_of_currency c = session_of_other_money c.args.books.now.state c.args.session.now c.requires.live
    (rw (c.site.ensures, c.site_book.ensures.site) at c.if-not-is_of_currency.ensures)

pub returns-then-not-is_unclaimed : goal.returns-then-not-is_unclaimed
returns-then-not-is_unclaimed c = charge_claimed c.args.books.now.state c.args.session.now c.key-evse.result c.key-evse.ensures c.requires.next c.requires.live c.requires.own
    c.if-not-is_unclaimed.ensures

pub returns : goal.returns
returns c = charge_may c.args.books.now.state c.args.session.now c.key-evse.result c.key-evse.ensures
    (subst (λ (k : List ℕ). HasPeer c.args.books.now.state.providers k) c.key.ensures c.if-not-is_provider.ensures)
    c.in_ok-check_connector.ensures.of_site
    (rw (c.site.ensures, c.site_book.ensures.site) at c.if-not-is_of_currency.ensures)
    c.if-not-is_unclaimed.ensures
