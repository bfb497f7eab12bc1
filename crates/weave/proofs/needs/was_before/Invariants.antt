use Rattle.std.proofs.Common.{◌≡◌, ◌<◌, ℕ}
use Rattle.std.specs.Prelude.{Some, slice_get}
use Rattle.histories.specs.declared.history.NodeHistory.{NodeHistory}
use Rattle.weave.specs.Given.{IsBefore}
use Rattle.weave.proofs.needs.was_before.Given as goal

abbrev pub invariant-loop-history : goal.invariant-loop-history
invariant-loop-history l = (k : ℕ) (h : NodeHistory) → k < l.history-index → slice_get l.histories k ≡ Some h → IsBefore h l.packet → ⊥
