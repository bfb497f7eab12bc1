use Rattle.ocpi_json.proofs.RowKeyLemmas.{keys_are_apart}
use Rattle.ocpi_json.proofs.row_keys.row_keys_are_apart.Goals as goal

pub returns : goal.returns
returns c = keys_are_apart
