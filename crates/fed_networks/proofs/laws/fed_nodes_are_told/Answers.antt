use Rattle.stored_nodes.specs.Keepers.{keeper_of}
use Rattle.node_keepers.specs.Opening.{source_of}
use Rattle.fed_networks.proofs.Telling as telling
use Rattle.fed_networks.proofs.laws.fed_nodes_are_told.Goals as goal

pub returns : goal.returns
returns g c =
    telling.fed_nodes_are_told c.nodes_can_start_again.ensures c.openings_can_start_again.ensures c.empty_is_held.ensures
    (keeper_of g.S.Kept.Keep.content g.S.Kept.Keep.is_honest g.S.Kept.Keep.refusals g.S.Kept.Keep.may_leave) (source_of g.S.Keeps.may_refuse g.S.Keeps.found)
    c.fed_runs_are_told.ensures
