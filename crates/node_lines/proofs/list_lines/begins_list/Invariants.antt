use Rattle.node_lines.proofs.ListLemmas.{IsSoFar}
use Rattle.node_lines.proofs.list_lines.begins_list.Given as goal

abbrev pub invariant-loop-byte : goal.invariant-loop-byte
invariant-loop-byte l = IsSoFar l.text l.byte-index
