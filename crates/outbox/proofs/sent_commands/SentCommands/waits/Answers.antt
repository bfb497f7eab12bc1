use Rattle.outbox.proofs.Waiting.{waits_by}
use Rattle.outbox.proofs.sent_commands.SentCommands.waits.Goals as goal

pub returns : goal.returns
returns c = rw (← c.self.view_is) (waits_by _ _ c.self.invariant c.args.number _ c.contains.ensures)
