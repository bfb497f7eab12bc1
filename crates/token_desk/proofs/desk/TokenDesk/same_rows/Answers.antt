use Rattle.token_desk.proofs.Listed.{same_rows}
use Rattle.token_desk.proofs.desk.TokenDesk.same_rows.Goals as goal

pub returns : goal.returns
returns c = λ same. same_rows _ _ same c.consistency.ensures c.consistency-2.ensures
