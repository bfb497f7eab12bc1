use Rattle.outbox.proofs.OutboxRowChanges as changes
use Rattle.outbox.proofs.outbox_laws.outbox_drops.Goals as goal

pub returns : goal.returns
returns c = changes.drops_end
