use Rattle.std.proofs.Common.{string_bytes, sym, ap, ◌∙◌}
use Rattle.json_text.specs.Line.{tree_of}
use Rattle.serde_json.specs.View.{view}
use Rattle.json_text.proofs.FaultyTrees.{none_by_quoting}
use Rattle.json_text.proofs.lines.refused_by_quoting.Goals as goal

pub unreachable-requires : goal.unreachable-requires
unreachable-requires c =
    none_by_quoting c.args.text.now (string_bytes c.in_ok-quoted.quoted) (view c.in-Ok.field-0) c.requires c.in_ok-quoted.ensures (ap tree_of (sym c.deref.ensures) ∙ c.in-Ok.ensures)
