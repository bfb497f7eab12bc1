use Rattle.ocpi_text.specs.Text.{key}
use Rattle.session_tables.specs.Places.{IsConnectorAt}
use Rattle.operator_planning.proofs.planner.Planner.location_of.Goals as goal

pub unreachable-requires : goal.unreachable-requires
unreachable-requires c =
    let r = c.requires in
    let at : IsConnectorAt c.self.inside.books.now.state.site.locations c.key.result (key c.args.version.now.connector_id) r.of_location r.of_evse r.its_connector =
    rw (c.self.view_is, c.key.ensures) (record { of_site = r.of_site; listed = r.listed; same = r.same }) in
    c.in_default.ensures.none r.of_location r.of_evse r.its_connector at
