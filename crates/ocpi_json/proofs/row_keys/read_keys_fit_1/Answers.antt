use Rattle.ocpi_json.proofs.ReadKeys.{read_keys_fit_1}
use Rattle.ocpi_json.proofs.row_keys.read_keys_fit_1.Goals as goal

pub returns : goal.returns
returns c = read_keys_fit_1
