use Rattle.std.proofs.Common.{◌≡◌, drop}
use Rattle.std.specs.FinMap.{find}
use Rattle.tables.specs.Keys.{text_pair_cmp}
use Rattle.node_store.specs.Contents.{line_place}
use Rattle.node_store.proofs.table_keep.line_of.Given as goal

abbrev pub invariant-loop-text : goal.invariant-loop-text
invariant-loop-text l = find text_pair_cmp line_place (drop l.text-index l.texts) ≡ find text_pair_cmp line_place l.texts
