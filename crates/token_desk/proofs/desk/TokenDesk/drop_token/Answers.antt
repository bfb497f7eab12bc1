use Rattle.token_desk.proofs.Keyed.{keyed_remove}
use Rattle.token_desk.proofs.desk.TokenDesk.drop_token.Goals as goal

pub invariant_of-self : goal.invariant_of-self
invariant_of-self c = rw c.remove.ensures.shown (keyed_remove _ _ c.self.invariant)
