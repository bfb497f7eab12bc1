use Rattle.authorization_book.proofs.Indexing.{none_indexed}
use Rattle.authorization_book.proofs.book.AuthorizationBook.new.Goals as goal

pub invariant_of-result : goal.invariant_of-result
invariant_of-result c = rw (c.new.ensures.shown, c.new-2.ensures.shown, c.new-3.ensures.shown) none_indexed
