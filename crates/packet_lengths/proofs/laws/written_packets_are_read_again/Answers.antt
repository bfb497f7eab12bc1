use Rattle.std.specs.Prelude.{string_bytes}
use Rattle.packet_lengths.proofs.Lines.{read_again}
use Rattle.packet_lengths.proofs.laws.written_packets_are_read_again.Goals as goal

pub returns : goal.returns
returns c = read_again _ string_bytes c.write_packet.result c.write_packet.ensures.text c.write_packet.ensures.again c.write_packet.ensures.fits
