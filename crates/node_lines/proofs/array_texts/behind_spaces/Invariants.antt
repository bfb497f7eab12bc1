use Rattle.std.proofs.Common.{◌≡◌, length}
use Rattle.node_lines.specs.ElementTexts.{behind_spaces}
use Rattle.node_lines.proofs.array_texts.behind_spaces.Given as goal

abbrev pub invariant-loop-first : goal.invariant-loop-first
invariant-loop-first l = behind_spaces l.rest ≡ behind_spaces l.text

abbrev pub decreases-loop-first : goal.decreases-loop-first
decreases-loop-first l = length l.rest
