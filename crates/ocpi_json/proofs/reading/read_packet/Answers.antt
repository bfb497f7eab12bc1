use Rattle.json_text.proofs.LineTrees.{found_in, only_in}
use Rattle.ocpi_json.proofs.PacketLemmas.{packet_found, packet_only}
use Rattle.ocpi_json.proofs.reading.read_packet.Goals as goal

pub returns-clause-found : goal.returns-clause-found
returns-clause-found c = found_in (packet_found c.args.line.now) c.packet_in.result c.packet_in.ensures.exact

pub returns-clause-only : goal.returns-clause-only
returns-clause-only c = only_in (packet_only c.args.line.now) c.packet_in.result c.packet_in.ensures.exact
