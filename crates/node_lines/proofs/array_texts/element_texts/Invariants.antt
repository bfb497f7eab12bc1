use Rattle.std.proofs.Common.{length, map, drop}
use Rattle.node_lines.specs.ElementTexts.{behind_spaces}
use Rattle.node_lines.proofs.CutLemmas.{AreSoFar}
use Rattle.node_lines.proofs.array_texts.element_texts.Given as goal

abbrev pub invariant-loop-behind : goal.invariant-loop-behind
invariant-loop-behind l = AreSoFar (drop 1 (behind_spaces l.line)) (map (λ t. t.now) l.texts.items) l.rest

abbrev pub decreases-loop-behind : goal.decreases-loop-behind
decreases-loop-behind l = length l.rest
