use Rattle.std.proofs.Common.{◌≡◌, length}
use Rattle.node_lines.specs.ElementTexts.{before_spaces}
use Rattle.node_lines.proofs.array_texts.before_spaces.Given as goal

abbrev pub invariant-loop-last : goal.invariant-loop-last
invariant-loop-last l = before_spaces l.rest ≡ before_spaces l.text

abbrev pub decreases-loop-last : goal.decreases-loop-last
decreases-loop-last l = length l.rest
