use Rattle.json_text.proofs.LineTrees.{found_in, only_in}
use Rattle.ocpi_json.proofs.ReadSites.{site_found, site_only}
use Rattle.ocpi_json.proofs.reading.read_site.Goals as goal

pub returns-clause-found : goal.returns-clause-found
returns-clause-found c = found_in (site_found c.args.line.now) c.site_in.result c.site_in.ensures.exact

pub returns-clause-only : goal.returns-clause-only
returns-clause-only c = only_in (site_only c.args.line.now) c.site_in.result c.site_in.ensures.exact
