use Rattle.std.proofs.Common.{◌≡◌, All, take}
use Rattle.node_store.specs.Placing.{HasRoom, kept}
use Rattle.node_store.proofs.changing.reserve_all.Given as goal

abbrev pub invariant-loop-next : goal.invariant-loop-next
invariant-loop-next l = (kept l.stored ≡ kept l.initial.stored) × All (HasRoom l.stored) (take l.next-index l.placed)
