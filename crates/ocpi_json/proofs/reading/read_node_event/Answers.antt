use Rattle.json_text.proofs.LineTrees.{found_in, only_in}
use Rattle.ocpi_json.proofs.NodeEventLemmas.{node_event_found, node_event_only}
use Rattle.ocpi_json.proofs.reading.read_node_event.Goals as goal

pub returns-clause-found : goal.returns-clause-found
returns-clause-found c = found_in (node_event_found c.args.line.now) c.node_event_in.result c.node_event_in.ensures.exact

pub returns-clause-only : goal.returns-clause-only
returns-clause-only c = only_in (node_event_only c.args.line.now) c.node_event_in.result c.node_event_in.ensures.exact
