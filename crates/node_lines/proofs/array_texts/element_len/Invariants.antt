use Rattle.node_lines.proofs.CutLemmas.{Counts}
use Rattle.node_lines.proofs.array_texts.element_len.Given as goal

abbrev pub invariant-loop-i : goal.invariant-loop-i
invariant-loop-i l = Counts l.text l.i l.depth l.spot
