use Rattle.token_desk.proofs.Keyed.{keeps_more}
use Rattle.token_desk.proofs.desk.TokenDesk.put.Goals as goal

pub returns-in_ok-insert-in-Stored-clause-keeps : goal.returns-in_ok-insert-in-Stored-clause-keeps
returns-in_ok-insert-in-Stored-clause-keeps c = keeps_more _ _ _ c.in_ok-insert-in-Stored.ensures.rooms
