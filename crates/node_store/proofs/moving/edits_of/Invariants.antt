use Rattle.std.proofs.Common.{◌≡◌, All, take}
use Rattle.std.specs.Prelude.{flat_map}
use Rattle.node_store.specs.Moving.{MayMove, text_edits}
use Rattle.node_store.proofs.moving.edits_of.Given as goal

abbrev pub invariant-loop-text : goal.invariant-loop-text
invariant-loop-text l = (l.edits.items ≡ flat_map text_edits (take l.text-index l.texts)) × All MayMove (take l.text-index l.texts)
