use Rattle.std.proofs.Common.{◌≡◌, [], drop}
use Rattle.node_store.specs.Contents.{rows_after}
use Rattle.node_store.specs.Numbers.{others}
use Rattle.node_store.specs.Placing.{entries_at, kept}
use Rattle.node_store.proofs.list_keep.listed_rows.Given as goal

abbrev pub invariant-loop-place : goal.invariant-loop-place
invariant-loop-place l = rows_after l.rows.items (others (entries_at (kept l.stored) (drop l.place-index l.places))) ≡ rows_after [] (others (entries_at (kept l.stored) l.places))
