use Rattle.json_text.proofs.PieceQuoting.{quoted_by_pieces, pieces_by_quoting}
use Rattle.json_text.proofs.quote.quoting_goes_by_pieces.Goals as goal

pub returns : goal.returns
returns c = λ text read. (pieces_by_quoting text read, quoted_by_pieces text read)
