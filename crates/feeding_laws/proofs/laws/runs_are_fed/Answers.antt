use Rattle.stored_nodes.specs.Keepers.{keeper_of}
use Rattle.node_keepers.specs.Opening.{source_of}
use Rattle.feeding_laws.proofs.Ends as ends
use Rattle.feeding_laws.proofs.laws.runs_are_fed.Goals as goal

pub returns : goal.returns
returns g c =
    ends.runs_are_fed c.changes_are_held.ensures c.nodes_can_start_again.ensures
    (keeper_of g.S.Kept.Keep.content g.S.Kept.Keep.is_honest g.S.Kept.Keep.refusals g.S.Kept.Keep.may_leave) (source_of g.S.Keeps.may_refuse g.S.Keeps.found)
