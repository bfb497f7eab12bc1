use Rattle.command_book.proofs.Queued.{none_queued}
use Rattle.command_book.proofs.book.CommandBook.new.Goals as goal

pub invariant_of-result : goal.invariant_of-result
invariant_of-result c = rw (c.new-4.ensures.shown, c.new-2.ensures.shown) none_queued
