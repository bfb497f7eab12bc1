use Rattle.table_laws.proofs.TokenRises as laws
use Rattle.table_laws.proofs.laws.tokens_are_replaced_by_later.Goals as goal

pub returns : goal.returns
returns c = laws.tokens_are_replaced_by_later
