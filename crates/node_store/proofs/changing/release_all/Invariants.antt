use Rattle.std.proofs.Common.{◌≡◌}
use Rattle.node_store.specs.Placing.{kept}
use Rattle.node_store.proofs.changing.release_all.Given as goal

abbrev pub invariant-loop-place : goal.invariant-loop-place
invariant-loop-place l = kept l.stored ≡ kept l.initial.stored
