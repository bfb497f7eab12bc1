use Rattle.operator_stored.specs.Causes.{ChargedEarly, CostMissing, OfReservation, OtherPrice}
use Rattle.operator_stored.proofs.TellingSessions.{not_priced}
use Rattle.operator_stored.proofs.sessions.check_version.Goals as goal

pub returns-then-is_reservation-clause-stuck : goal.returns-then-is_reservation-clause-stuck
returns-then-is_reservation-clause-stuck c = OfReservation c.if-is_reservation.ensures

pub returns-in_default-clause-stuck : goal.returns-in_default-clause-stuck
returns-in_default-clause-stuck c = CostMissing c.in_default.is

pub returns-then-not-is_uncharged-clause-stuck : goal.returns-then-not-is_uncharged-clause-stuck
returns-then-not-is_uncharged-clause-stuck c = ChargedEarly c.if-not-is_uncharged.ensures

pub returns-then-not-can_go_on-clause-stuck : goal.returns-then-not-can_go_on-clause-stuck
returns-then-not-can_go_on-clause-stuck c =
    rw (c.value.ensures.value, c.value-then-not-can_go_on.ensures.value)
    (OtherPrice c.in-Some.cost c.in-Some.is (not_priced c.args.price c.args.session.now c.if-is_reservation.ensures c.if-not-is_uncharged.ensures c.if-not-can_go_on.ensures))
