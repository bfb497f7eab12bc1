use Rattle.session_book.proofs.Keeping.{none_kept}
use Rattle.session_book.proofs.records.Records.new.Goals as goal

pub invariant_of-result : goal.invariant_of-result
invariant_of-result c = rw (c.new.ensures.shown, c.new-2.ensures.shown) (none_kept _)
