use Rattle.std.proofs.Common.{◌≡◌, map, take}
use Rattle.histories.specs.declared.history.NodeHistory.{NodeHistory}
use Rattle.weave.proofs.weaving.serials_before.Given as goal

abbrev pub invariant-loop-history : goal.invariant-loop-history
invariant-loop-history l = l.serials.items ≡ map (λ (h : NodeHistory). h.before) (take l.history-index l.histories)
