use Rattle.row_table.proofs.HistoryLemmas.{stops_are_found}
use Rattle.row_table.proofs.laws.stops_are_found.Goals as goal

pub returns : goal.returns
returns g c = stops_are_found g.S.Store (λ h is_open db may. g.met.S.Store.settled h.store db is_open may)
