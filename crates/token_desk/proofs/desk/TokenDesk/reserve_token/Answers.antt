use Rattle.token_desk.proofs.desk.TokenDesk.reserve_token.Goals as goal

pub returns-clause-room : goal.returns-clause-room
returns-clause-room c = rw (← c.self.view_is, ← c.key.ensures, ← c.key-2.ensures, ← c.table_key.ensures) c.reserve.ensures.room

pub returns-clause-keeps : goal.returns-clause-keeps
returns-clause-keeps c = rw (← c.self.view_is) c.reserve.ensures.keeps

pub returns-clause-again : goal.returns-clause-again
returns-clause-again c = rw (← c.self.view_is, ← c.key.ensures, ← c.key-2.ensures, ← c.table_key.ensures) c.reserve.ensures.again
