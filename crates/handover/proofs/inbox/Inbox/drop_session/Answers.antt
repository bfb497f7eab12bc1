use Rattle.tables.specs.Keys.{text_pair_total, text_pair_exact}
use Rattle.handover.proofs.Holding.{own_remove, keeps_other_sessions}
use Rattle.tables.proofs.Rooms.{room_gone}
use Rattle.handover.proofs.inbox.Inbox.drop_session.Goals as goal

pub invariant_of-self : goal.invariant_of-self
invariant_of-self c = rw c.remove.ensures.shown (own_remove _ c.self.invariant _)

pub returns-clause-keeps : goal.returns-clause-keeps
returns-clause-keeps c = rw (← c.self.view_is) (keeps_other_sessions _ _ _ (c.args.operator, c.args.id) c.remove.ensures.room)

pub returns-clause-room : goal.returns-clause-room
returns-clause-room c = room_gone text_pair_total text_pair_exact _ _ _ c.remove.ensures.room
