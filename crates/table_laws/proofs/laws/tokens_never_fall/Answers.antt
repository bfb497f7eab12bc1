use Rattle.table_laws.proofs.TokenRises as laws
use Rattle.table_laws.proofs.laws.tokens_never_fall.Goals as goal

pub returns : goal.returns
returns c = laws.tokens_never_fall
