use Rattle.json_text.proofs.LineTrees.{found_in, only_in}
use Rattle.ocpi_json.proofs.SetupLemmas.{setup_found, setup_only}
use Rattle.ocpi_json.proofs.reading.read_setup.Goals as goal

pub returns-clause-found : goal.returns-clause-found
returns-clause-found c = found_in (setup_found c.args.line.now) c.setup_in.result c.setup_in.ensures.exact

pub returns-clause-only : goal.returns-clause-only
returns-clause-only c = only_in (setup_only c.args.line.now) c.setup_in.result c.setup_in.ensures.exact
