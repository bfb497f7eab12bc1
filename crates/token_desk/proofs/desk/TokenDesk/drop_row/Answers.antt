use Rattle.tables.proofs.Maps.{key_gone}
use Rattle.token_desk.specs.TypeOrder.{tokens_total, tokens_exact}
use Rattle.token_desk.proofs.Keyed.{keeps_others}
use Rattle.token_desk.proofs.desk.TokenDesk.drop_row.Goals as goal

pub returns-in-Token-clause-gives_back : goal.returns-in-Token-clause-gives_back
returns-in-Token-clause-gives_back c = rw (c.in-Token.is, c.drop_token.ensures.rooms) (key_gone tokens_total tokens_exact _ _)

pub returns-in-Token-clause-keeps : goal.returns-in-Token-clause-keeps
returns-in-Token-clause-keeps c = rw c.in-Token.is (keeps_others _ _ c.in-Token.party c.in-Token.token_type c.in-Token.uid c.drop_token.ensures.rooms)
