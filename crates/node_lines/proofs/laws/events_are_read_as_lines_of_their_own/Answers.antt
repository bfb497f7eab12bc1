use Rattle.node_lines.proofs.NodeLineLemmas.{event_found, event_only, others_alike}
use Rattle.node_lines.proofs.laws.events_are_read_as_lines_of_their_own.Goals as goal

pub returns-clause-events : goal.returns-clause-events
returns-clause-events c = λ line x. (event_found line x, event_only line x)

pub returns-clause-others : goal.returns-clause-others
returns-clause-others c = others_alike
