use Rattle.table_laws.proofs.AnsweredTokens as laws
use Rattle.table_laws.proofs.laws.answers_are_about_tokens.Goals as goal

pub returns : goal.returns
returns c = laws.answers_are_about_tokens
