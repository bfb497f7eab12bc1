use Rattle.token_desk.proofs.Keyed.{keyed_empty}
use Rattle.token_desk.proofs.desk.TokenDesk.new.Goals as goal

pub invariant_of-result : goal.invariant_of-result
invariant_of-result c = rw c.new.ensures.shown keyed_empty
