use Rattle.outbox.proofs.Indexing.{indexed_none}
use Rattle.outbox.proofs.push_book.PushBook.new.Goals as goal

pub invariant_of-result : goal.invariant_of-result
invariant_of-result c = rw (c.new.ensures.shown, c.new-2.ensures.shown) indexed_none
