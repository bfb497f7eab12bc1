use Rattle.handover.proofs.InboxListed.{nothing_listed}
use Rattle.handover.proofs.inbox.Inbox.rows.Goals as goal

pub returns-then-is_empty-clause-ok : goal.returns-then-is_empty-clause-ok
returns-then-is_empty-clause-ok c = rw c.new.ensures.items (nothing_listed _ (c.is_empty.ensures.yes c.if-is_empty.true))
