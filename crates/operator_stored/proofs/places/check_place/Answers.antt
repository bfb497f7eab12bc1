use Rattle.operator_stored.specs.Causes.{WithoutConnector, WithoutEvse}
use Rattle.operator_stored.proofs.TellingCommands.{misplaced_at}
use Rattle.operator_stored.proofs.places.check_place.Goals as goal

pub returns-in_default-clause-not : goal.returns-in_default-clause-not
returns-in_default-clause-not c = WithoutEvse c.in_default.is

pub returns-in_default-connector_id-clause-not : goal.returns-in_default-connector_id-clause-not
returns-in_default-connector_id-clause-not c = WithoutConnector c.in_default-connector_id.is

pub returns-clause-not : goal.returns-clause-not
returns-clause-not c =
    misplaced_at c.check_connector.result c.args.books.now.state.site.locations c.args.order.now c.in-Some.evse_uid c.in-Some-connector_id.connector_id c.key.result
    c.in-Some.is c.in-Some-connector_id.is c.key.ensures c.check_connector.ensures.not
