use Rattle.ocpi_json.proofs.Layouts.{others_are_alike}
use Rattle.ocpi_json.proofs.reading.other_rows_are_alike.Goals as goal

pub returns : goal.returns
returns c = others_are_alike
