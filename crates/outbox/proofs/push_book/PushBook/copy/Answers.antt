use Rattle.outbox.proofs.Copying.{copied}
use Rattle.outbox.proofs.push_book.PushBook.copy.Goals as goal

pub returns : goal.returns
returns c = copied c.args.self.now.pushes _ _ c.into_iter-number-iterator.result c.in-None.ensures.steps.0 c.loop-number.invariant (cc)
