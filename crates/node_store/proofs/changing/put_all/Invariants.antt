use Rattle.std.proofs.Common.{◌≡◌, All, length}
use Rattle.std.specs.Vec.Iter.{into_iter_items, into_iter_len}
use Rattle.node_store.specs.Placing.{HasRoom, kept, placed_all}
use Rattle.node_store.proofs.changing.put_all.Given as goal

abbrev pub invariant-loop-next : goal.invariant-loop-next
invariant-loop-next l = record {
  rest : placed_all (kept l.stored) (into_iter_items l.next-iterator) ≡ placed_all (kept l.initial.stored) (into_iter_items l.initial.next-iterator);
  ready : All (HasRoom l.stored) (into_iter_items l.next-iterator);
  long : into_iter_len l.next-iterator ≡ length (into_iter_items l.next-iterator);
}
