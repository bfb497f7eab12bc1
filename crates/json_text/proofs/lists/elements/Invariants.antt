use Rattle.std.proofs.Common.{◌≡◌, [], drop}
use Rattle.json_text.specs.Trees.{items_view}
use Rattle.json_text.specs.Fields.{each_after}
use Rattle.json_text.proofs.lists.elements.Given as goal

abbrev pub invariant-loop-value : goal.invariant-loop-value
invariant-loop-value g l = each_after (g.R.ElementReader.at l.reader) l.out.items (items_view (drop l.value-index l.values)) ≡ each_after (g.R.ElementReader.at l.reader) [] (items_view l.values)
