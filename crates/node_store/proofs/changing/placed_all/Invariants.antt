use Rattle.std.proofs.Common.{◌≡◌, All, map, take}
use Rattle.node_store.specs.Contents.{IsReadAgain}
use Rattle.node_store.specs.Placing.{placed_of}
use Rattle.node_store.proofs.changing.placed_all.Given as goal

abbrev pub invariant-loop-change : goal.invariant-loop-change
invariant-loop-change l = (l.placed.items ≡ map placed_of (take l.change-index l.changes)) × All IsReadAgain (take l.change-index l.changes)
