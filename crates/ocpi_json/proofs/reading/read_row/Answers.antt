use Rattle.json_text.proofs.LineTrees.{found_in, only_in}
use Rattle.ocpi_json.proofs.RowLemmas.{row_found, row_only}
use Rattle.ocpi_json.proofs.reading.read_row.Goals as goal

pub returns-clause-found : goal.returns-clause-found
returns-clause-found c = found_in (row_found c.args.kind.now c.args.key.now c.args.text.now) c.row_in.result c.row_in.ensures

pub returns-clause-only : goal.returns-clause-only
returns-clause-only c = only_in (row_only c.args.kind.now c.args.key.now c.args.text.now) c.row_in.result c.row_in.ensures
