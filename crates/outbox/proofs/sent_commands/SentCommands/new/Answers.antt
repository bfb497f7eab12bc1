use Rattle.outbox.proofs.Waiting.{none_waiting}
use Rattle.outbox.proofs.sent_commands.SentCommands.new.Goals as goal

pub invariant_of-result : goal.invariant_of-result
invariant_of-result c = rw (c.new.ensures.shown, c.new-2.ensures.shown) none_waiting
