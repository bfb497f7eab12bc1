use Rattle.stored_nodes.specs.Keepers.{keeper_of}
use Rattle.node_keepers.specs.Opening.{source_of}
use Rattle.fed_networks.proofs.Feeding as feeding
use Rattle.fed_networks.proofs.laws.fed_nodes_form_networks.Goals as goal

pub returns : goal.returns
returns g c =
    feeding.fed_nodes_form_networks c.nodes_can_start_again.ensures c.openings_can_start_again.ensures c.empty_is_held.ensures
    (keeper_of g.S.Kept.Keep.content g.S.Kept.Keep.is_honest g.S.Kept.Keep.refusals g.S.Kept.Keep.may_leave) (source_of g.S.Keeps.may_refuse g.S.Keeps.found)
    c.fed_runs_are_exact.ensures
