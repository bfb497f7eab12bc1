use Rattle.std.proofs.Common.{◌≡◌, ◌++◌, T, length, map}
use Rattle.std.specs.FinMap.{is_sorted}
use Rattle.std.specs.Vec.Iter.{into_iter_items, into_iter_len}
use Rattle.tables.specs.Keys.{text_pair_cmp}
use Rattle.row_table.specs.Reading.{entry_shown}
use Rattle.row_table.proofs.reading.read_all.Given as goal

-- with what is left to be read, it is all
abbrev pub invariant-loop-row : goal.invariant-loop-row
invariant-loop-row l = record {
  read : l.all.items ++ map entry_shown (into_iter_items l.row-iterator) ≡ map entry_shown (into_iter_items l.initial.row-iterator);
  sorted : T (is_sorted text_pair_cmp l.all.items);
  long : into_iter_len l.row-iterator ≡ length (into_iter_items l.row-iterator);
}
