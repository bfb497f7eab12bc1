use Rattle.json_text.proofs.LineTrees.{found_in, only_in}
use Rattle.ocpi_json.proofs.EventLemmas.{event_found, event_only}
use Rattle.ocpi_json.proofs.reading.read_event.Goals as goal

pub returns-clause-found : goal.returns-clause-found
returns-clause-found c = found_in (event_found c.args.line.now) c.event_in.result c.event_in.ensures.exact

pub returns-clause-only : goal.returns-clause-only
returns-clause-only c = only_in (event_only c.args.line.now) c.event_in.result c.event_in.ensures.exact
