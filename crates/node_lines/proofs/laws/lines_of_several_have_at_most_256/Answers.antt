use Rattle.node_lines.proofs.NodeLineLemmas.{is_array}
use Rattle.node_lines.proofs.laws.lines_of_several_have_at_most_256.Goals as goal

pub returns : goal.returns
returns c = λ line events e. (is_array line events e).few
