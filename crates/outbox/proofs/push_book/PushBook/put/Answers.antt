use Rattle.std.specs.Cmp.{nat_cmp_total}
use Rattle.std.specs.FinMap.{nat_cmp-IsAntisymmetric}
use Rattle.tables.proofs.Maps.{get-remove_same, insert_removed}
use Rattle.outbox.proofs.push_book.PushBook.put.Goals as goal

pub fill-requires-clause-new : goal.fill-requires-clause-new
fill-requires-clause-new c = rw c.clear.ensures.pushes (get-remove_same nat_cmp_total nat_cmp-IsAntisymmetric _ _)

pub returns-clause-pushes : goal.returns-clause-pushes
returns-clause-pushes c = rw (c.fill.ensures.pushes, c.clear.ensures.pushes) (insert_removed nat_cmp_total nat_cmp-IsAntisymmetric _ _ _)
