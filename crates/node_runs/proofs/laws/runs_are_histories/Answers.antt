use Rattle.stored_nodes.specs.Keepers.{keeper_of}
use Rattle.node_keepers.specs.Opening.{source_of}
use Rattle.node_runs.proofs.HistoryLemmas as histories
use Rattle.node_runs.proofs.laws.runs_are_histories.Goals as goal

pub returns : goal.returns
returns g c = histories.runs_are_histories (keeper_of g.S.Kept.Keep.content g.S.Kept.Keep.is_honest g.S.Kept.Keep.refusals g.S.Kept.Keep.may_leave) (source_of g.S.Keeps.may_refuse g.S.Keeps.found)
