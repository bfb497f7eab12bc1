use Rattle.std.proofs.Common.{◌≡◌, ◌++◌, take, string_bytes}
use Rattle.program_lines.specs.Writing.{packet_lines}
use Rattle.program_lines.proofs.writing.write_packets.Given as goal

-- the packets before this one are written
abbrev pub invariant-loop-packet : goal.invariant-loop-packet
invariant-loop-packet l = string_bytes l.output ≡ string_bytes l.fn.output ++ packet_lines (take l.packet-index l.packets)
