use Rattle.std.proofs.Common.{◌≡◌, drop}
use Rattle.node_store.specs.Editing.{puts}
use Rattle.node_store.proofs.editing.puts.Given as goal

-- whether one of the rest puts it tells whether one of all does
abbrev pub invariant-loop-change : goal.invariant-loop-change
invariant-loop-change l = puts l.counter (drop l.change-index l.changes) ≡ puts l.counter l.changes
