use Rattle.node_lines.proofs.NodeLineLemmas.{begun_cut, line_cut}
use Rattle.node_lines.proofs.laws.long_lines_are_read_as_their_first_bytes.Goals as goal

pub returns-clause-read : goal.returns-clause-read
returns-clause-read c = line_cut

pub returns-clause-begun : goal.returns-clause-begun
returns-clause-begun c = begun_cut
