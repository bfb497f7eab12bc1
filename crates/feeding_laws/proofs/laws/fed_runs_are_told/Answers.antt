use Rattle.stored_nodes.specs.Keepers.{keeper_of}
use Rattle.node_keepers.specs.Opening.{source_of}
use Rattle.feeding_laws.proofs.Chain as chain
use Rattle.feeding_laws.proofs.laws.fed_runs_are_told.Goals as goal

pub returns : goal.returns
returns g c =
    chain.fed_runs_are_told (keeper_of g.S.Kept.Keep.content g.S.Kept.Keep.is_honest g.S.Kept.Keep.refusals g.S.Kept.Keep.may_leave) (source_of g.S.Keeps.may_refuse g.S.Keeps.found)
