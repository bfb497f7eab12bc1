use Rattle.std.proofs.Common.{◌≡◌, ◌++◌, All, drop, map, take}
use Rattle.node_store.specs.Contents.{IsReadAgain}
use Rattle.node_store.specs.Editing.{edit_of, written}
use Rattle.node_store.proofs.editing.change_edits.Given as goal

-- with the edits that are left of the rest, they are all
abbrev pub invariant-loop-i : goal.invariant-loop-i
invariant-loop-i l = (l.edits.items ++ map edit_of (written (drop l.i l.changes)) ≡ map edit_of (written l.changes)) × All IsReadAgain (take l.i l.changes)
