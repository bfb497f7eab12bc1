use Rattle.tables.specs.Keys.{text_pair_total, text_pair_exact}
use Rattle.tables.proofs.Maps.{get-remove_same, insert_removed}
use Rattle.handover.proofs.cdr_book.CdrBook.put.Goals as goal

pub fill-requires-clause-new : goal.fill-requires-clause-new
fill-requires-clause-new c = rw (c.clear.ensures.cdrs, (rw c.deref-seen.ensures at c.key.ensures), (rw c.deref-seen.ensures at c.key-2.ensures)) (get-remove_same text_pair_total text_pair_exact _ _)

pub returns-clause-cdrs : goal.returns-clause-cdrs
returns-clause-cdrs c = rw (c.fill.ensures.cdrs, c.clear.ensures.cdrs, (rw c.deref-seen.ensures at c.key.ensures), (rw c.deref-seen.ensures at c.key-2.ensures)) (insert_removed text_pair_total text_pair_exact _ _ _)
