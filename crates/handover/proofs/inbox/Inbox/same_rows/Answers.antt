use Rattle.handover.proofs.InboxListed.{rows_are_all}
use Rattle.handover.proofs.inbox.Inbox.same_rows.Goals as goal

pub returns : goal.returns
returns c = rows_are_all _ _ c.consistency.ensures c.consistency-2.ensures
