use Rattle.std.proofs.lemmas.Result.{err_from_is_err_and}
use Rattle.operator_stored.proofs.Telling.{reservation_claimed, reservation_may, reservation_nowhere}
use Rattle.operator_stored.proofs.places.may_reserve.Goals as goal

pub returns-in_err-check_location : goal.returns-in_err-check_location
returns-in_err-check_location c =
    let p = err_from_is_err_and c.from_residual.result c.from_residual.ensures.1 in
    rw (p.1, p.2)
    (reservation_nowhere c.args.books.now.state c.args.provider c.args.id c.args.reservation.now c.requires c.key-evse.result _ c.key-evse.ensures
    c.in_err-check_location.ensures.not)

pub returns-then-not-is_unclaimed : goal.returns-then-not-is_unclaimed
returns-then-not-is_unclaimed c =
    reservation_claimed c.args.books.now.state c.args.provider c.args.id c.args.reservation.now c.requires c.key-evse.result c.key-evse.ensures c.if-not-is_unclaimed.ensures

pub returns : goal.returns
returns c =
    reservation_may c.args.books.now.state c.args.provider c.args.id c.args.reservation.now c.requires c.key-evse.result c.key-evse.ensures
    c.in_ok-check_location.ensures.at c.if-not-is_unclaimed.ensures
