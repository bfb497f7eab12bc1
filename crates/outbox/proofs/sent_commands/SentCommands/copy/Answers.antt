use Rattle.outbox.proofs.Copying.{copied}
use Rattle.outbox.proofs.sent_commands.SentCommands.copy.Goals as goal

pub returns : goal.returns
returns c = copied c.args.self.now.commands _ _ c.into_iter-number-iterator.result c.in-None.ensures.steps.0 c.loop-number.invariant (cc)
