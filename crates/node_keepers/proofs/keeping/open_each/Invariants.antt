use Rattle.std.proofs.Common.{take}
use Rattle.node_keepers.specs.Keeping.{AreOpened, keeping_of}
use Rattle.node_keepers.proofs.keeping.open_each.Given as goal

-- each node before this one has its keeper
abbrev pub invariant-loop-node : goal.invariant-loop-node
invariant-loop-node g l = AreOpened (keeping_of g.S.Kept.Keep.content g.S.Kept.Keep.is_honest g.S.Kept.Keep.refusals) (take l.node-index l.setup) l.kept.items
