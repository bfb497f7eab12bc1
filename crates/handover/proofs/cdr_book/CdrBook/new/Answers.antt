use Rattle.handover.proofs.Keeping.{kept_none}
use Rattle.handover.proofs.cdr_book.CdrBook.new.Goals as goal

pub invariant_of-result : goal.invariant_of-result
invariant_of-result c = rw (c.new.ensures.shown, c.new-2.ensures.shown, c.new-3.ensures.shown) (kept_none _)
