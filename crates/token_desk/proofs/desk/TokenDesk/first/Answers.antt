use Rattle.token_desk.proofs.Lookups.{least_is_first}
use Rattle.token_desk.proofs.desk.TokenDesk.first.Goals as goal

pub returns-in-Some-clause-found : goal.returns-in-Some-clause-found
returns-in-Some-clause-found c = rw (← c.self.view_is) (least_is_first _ _ _ _ _ (rw c.new.ensures at c.in-Some.ensures.some))
