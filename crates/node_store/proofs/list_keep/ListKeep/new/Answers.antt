use Rattle.std.proofs.Common.{sym, subst}
use Rattle.node_store.proofs.KeptRows.{AreKept, none_kept}
use Rattle.node_store.proofs.list_keep.ListKeep.new.Goals as goal

pub invariant_of-result : goal.invariant_of-result
invariant_of-result c = subst AreKept (sym c.new.ensures.shown) none_kept
