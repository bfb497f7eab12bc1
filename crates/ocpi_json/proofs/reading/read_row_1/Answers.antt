use Rattle.json_text.proofs.LineTrees.{found_in, only_in}
use Rattle.ocpi_json.proofs.RowLemmas.{row_found_1, row_only_1}
use Rattle.ocpi_json.proofs.reading.read_row_1.Goals as goal

pub returns-clause-found : goal.returns-clause-found
returns-clause-found c = found_in (row_found_1 c.args.kind.now c.args.key.now c.args.text.now) c.row_in_1.result c.row_in_1.ensures

pub returns-clause-only : goal.returns-clause-only
returns-clause-only c = only_in (row_only_1 c.args.kind.now c.args.key.now c.args.text.now) c.row_in_1.result c.row_in_1.ensures
