use Rattle.token_desk.proofs.Keyed.{keeps_more}
use Rattle.token_desk.proofs.desk.TokenDesk.store.Goals as goal

pub returns-clause-keeps : goal.returns-clause-keeps
returns-clause-keeps c = keeps_more _ _ _ c.in_ok-insert.ensures.rooms
