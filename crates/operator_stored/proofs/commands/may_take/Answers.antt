use Rattle.std.proofs.lemmas.Result.{err_from_is_err_and}
use Rattle.operator_stored.proofs.TellingCommands.{start_nowhere, take_claimed, take_free}
use Rattle.operator_stored.proofs.commands.may_take.Goals as goal

pub returns-in_err-check_place : goal.returns-in_err-check_place
returns-in_err-check_place c =
    let p = err_from_is_err_and c.from_residual.result c.from_residual.ensures.1 in
    rw (p.1, p.2)
    (start_nowhere c.args.books.now.state c.args.provider c.args.number c.args.order.now _ c.if-not-is_start.ensures c.in_err-check_place.ensures.not)

pub returns-then-not-is_unclaimed : goal.returns-then-not-is_unclaimed
returns-then-not-is_unclaimed c = take_claimed c.args.books.now.state c.args.provider c.args.number c.args.order.now c.in-Some.evse_uid c.in-Some.is
    c.key.result c.key.ensures c.if-not-is_start.ensures c.requires c.if-not-is_unclaimed.ensures

pub returns-else-not-is_unclaimed : goal.returns-else-not-is_unclaimed
returns-else-not-is_unclaimed c = take_free c.args.books.now.state c.args.provider c.args.number c.args.order.now c.in-Some.evse_uid c.in-Some.is
    c.key.result c.key.ensures c.in_ok-check_place.ensures.at c.if-not-is_unclaimed.ensures
