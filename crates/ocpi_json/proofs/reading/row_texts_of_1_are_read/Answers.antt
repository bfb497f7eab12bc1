use Rattle.ocpi_json.proofs.WrittenRows.{row_texts_of_1_are_read}
use Rattle.ocpi_json.proofs.reading.row_texts_of_1_are_read.Goals as goal

pub returns : goal.returns
returns c = row_texts_of_1_are_read
