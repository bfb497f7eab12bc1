use Rattle.packet_lengths.proofs.Lines as lines
use Rattle.packet_lengths.proofs.laws.packets_have_short_lines.Goals as goal

pub returns : goal.returns
returns c = lines.packets_have_short_lines
