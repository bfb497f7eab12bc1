use Rattle.stored_nodes.specs.Keepers.{keeper_of}
use Rattle.node_runs.proofs.HistoryLemmas as histories
use Rattle.node_runs.proofs.laws.two_runs_are_one.Goals as goal

pub returns : goal.returns
returns g c =
    histories.two_runs_are_one c.nodes_keep_openings.ensures c.changes_are_held.ensures c.nodes_can_start_again.ensures c.restarts_are_held.ensures c.alike_are_classes.ensures
    (keeper_of g.K.Keep.content g.K.Keep.is_honest g.K.Keep.refusals g.K.Keep.may_leave)
