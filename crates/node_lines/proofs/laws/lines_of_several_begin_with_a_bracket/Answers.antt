use Rattle.node_lines.proofs.NodeLineLemmas.{several_begin}
use Rattle.node_lines.proofs.laws.lines_of_several_begin_with_a_bracket.Goals as goal

pub returns : goal.returns
returns c = several_begin
