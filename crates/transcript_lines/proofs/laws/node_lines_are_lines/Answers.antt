use Rattle.transcript_lines.proofs.EventLines as lines
use Rattle.transcript_lines.proofs.laws.node_lines_are_lines.Goals as goal

pub returns : goal.returns
returns c = lines.node_lines_are_lines
