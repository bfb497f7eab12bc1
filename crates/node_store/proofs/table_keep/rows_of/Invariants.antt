use Rattle.std.proofs.Common.{◌≡◌, [], length}
use Rattle.std.specs.Vec.Iter.{into_iter_items, into_iter_len}
use Rattle.node_store.specs.Contents.{rows_after}
use Rattle.node_store.specs.Numbers.{others}
use Rattle.node_store.proofs.table_keep.rows_of.Given as goal

abbrev pub invariant-loop-text : goal.invariant-loop-text
invariant-loop-text l = record {
  rest : rows_after l.rows.items (others (into_iter_items l.text-iterator)) ≡ rows_after [] (others (into_iter_items l.initial.text-iterator));
  long : into_iter_len l.text-iterator ≡ length (into_iter_items l.text-iterator);
}
