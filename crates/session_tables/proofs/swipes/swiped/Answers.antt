use Rattle.session_tables.specs.Found.{connector_of, evse_of, location_of}
use Rattle.session_tables.proofs.Swiping.{free_to, held_to, shut, unplaced}
use Rattle.session_tables.proofs.swipes.swiped.Goals as goal

pub returns-in_default : goal.returns-in_default
returns-in_default c =
    unplaced c.args.books.now.state c.args.evse_uid.now c.args.connector_id.now c.args.token_uid.now c.args.token_type (rw c.key-evse.ensures at c.in_default.ensures.none)

pub returns-in-Closed : goal.returns-in-Closed
returns-in-Closed c =
    shut c.args.books.now.state c.args.evse_uid.now c.args.connector_id.now c.args.token_uid.now c.args.token_type c.opened_to.result
    (rw (c.key-evse.ensures, c.key-uid.ensures) at c.opened_to.ensures) c.in-Closed.is

pub returns-in-Free : goal.returns-in-Free
returns-in-Free c =
    free_to c.args.books.now.state c.args.evse_uid.now c.args.connector_id.now c.args.token_uid.now c.args.token_type
    (location_of c.in-Some.at) (evse_of c.in-Some.at) (connector_of c.in-Some.at) (rw c.key-evse.ensures at c.in-Some.ensures.found) c.opened_to.result
    (rw (c.key-evse.ensures, c.key-uid.ensures) at c.opened_to.ensures) c.in-Free.is c.decide.result
    (rw (c.desk.ensures, c.key-uid.ensures) at c.decide.ensures) c.told.result c.told.ensures

pub returns-in-Held : goal.returns-in-Held
returns-in-Held c =
    held_to c.args.books.now.state c.args.evse_uid.now c.args.connector_id.now c.args.token_uid.now c.args.token_type
    (location_of c.in-Some.at) (evse_of c.in-Some.at) (connector_of c.in-Some.at) (rw c.key-evse.ensures at c.in-Some.ensures.found) c.opened_to.result
    (rw (c.key-evse.ensures, c.key-uid.ensures) at c.opened_to.ensures) c.in-Held.provider c.in-Held.reservation c.in-Held.is c.decide-swipe.result
    (rw (c.desk-in-Held.ensures, c.key-uid.ensures) at c.decide-swipe.ensures) c.told-in-Held.result c.told-in-Held.ensures
