use Rattle.provider_core.proofs.Ordering.{cancel_prepared, reserve_prepared, stop_prepared, unlock_prepared}
use Rattle.provider_core.proofs.provider.Provider.prepare.Goals as goal

pub returns-in_ok-token-in-ReserveNow-clause-prepared : goal.returns-in_ok-token-in-ReserveNow-clause-prepared
returns-in_ok-token-in-ReserveNow-clause-prepared c =
    let x = c.in-ReserveNow in
    let token = c.in_ok-token-in-ReserveNow in
    reserve_prepared c.args.self.now.state c.args.order.now x.token_uid x.token_type x.expiry_date x.reservation_id x.location_id x.evse_uid x.is token.token token.ensures.held

pub returns-in-StopSession-clause-prepared : goal.returns-in-StopSession-clause-prepared
returns-in-StopSession-clause-prepared c = stop_prepared c.args.self.now.state c.args.order.now c.in-StopSession.session_id c.in-StopSession.is c.stop.result c.stop.ensures

pub returns-in-CancelReservation-clause-prepared : goal.returns-in-CancelReservation-clause-prepared
returns-in-CancelReservation-clause-prepared c = cancel_prepared c.args.self.now.state c.args.order.now c.in-CancelReservation.reservation_id c.in-CancelReservation.is c.cancel.result c.cancel.ensures

pub returns-in-UnlockConnector-clause-prepared : goal.returns-in-UnlockConnector-clause-prepared
returns-in-UnlockConnector-clause-prepared c =
    let x = c.in-UnlockConnector in
    unlock_prepared c.args.self.now.state c.args.order.now x.location_id x.evse_uid x.connector_id x.is c.unlock.result c.unlock.ensures
