use Rattle.outbox.proofs.OutboxRowChanges as changes
use Rattle.outbox.proofs.outbox_laws.same_outbox_rows.Goals as goal

pub returns : goal.returns
returns c = changes.same_rows
