use Rattle.token_desk.proofs.Keyed.{keyed_insert}
use Rattle.token_desk.proofs.desk.TokenDesk.put_token.Goals as goal

pub invariant_of-self : goal.invariant_of-self
invariant_of-self c = rw (c.put.ensures.shown, c.table_key.ensures, c.key.ensures, c.key-2.ensures) (keyed_insert _ _ c.self.invariant)
