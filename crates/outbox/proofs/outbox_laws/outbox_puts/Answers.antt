use Rattle.outbox.proofs.OutboxRowChanges as changes
use Rattle.outbox.proofs.outbox_laws.outbox_puts.Goals as goal

pub returns : goal.returns
returns c = changes.puts_stand
