use Rattle.stored_nodes.proofs.Together.{these_events}
use Rattle.stored_nodes.proofs.laws.refused_commits_leave_their_events.Goals as goal
use Rattle.stored_nodes.specs.Keepers.{keeper_of}

pub returns : goal.returns
returns g c = these_events (keeper_of g.K.Keep.content g.K.Keep.is_honest g.K.Keep.refusals g.K.Keep.may_leave) c.changes_are_held.ensures c.nodes_can_start_again.ensures
