use Rattle.json_text.proofs.Unquoting.{unquote_quote}
use Rattle.json_text.proofs.unquote.unquoting_undoes_quoting.Goals as goal

pub returns : goal.returns
returns c = unquote_quote
