-- The line of a packet needs at most so much.
use Rattle.std.proofs.Common.{◌≡◌, ◌≤◌, ◌+◌, ◌*◌, ℕ, List, [], ◌∷◌, length, false, Result, Ok, Err, IfOk, ap, arith}
use Rattle.std.specs.Prelude.{OnOk}
use Rattle.json.specs.Tree.{json_tokens}
use Rattle.ocpi_types.specs.Kinds.{kind_of}
use Rattle.ocpi_types.specs.Words.{kind_word}
use Rattle.ocpi_types.specs.declared.packet.Packet.{Packet}
use Rattle.json_text.specs.Line.{max_line}
use Rattle.ocpi_json.specs.Packets.{packet_in, packet_json, packet_members, packet_text, PacketFits}
use Rattle.packet_lengths.specs.Lengths.{PacketsHaveShortLines, listed}
use Rattle.packet_lengths.proofs.Records.{body_needs, kind_short, party_needs}
use Rattle.packet_lengths.proofs.Sizes.{◌and◌, Needs, print_short, record_within, text_needs, whole_needs}

packet_needs : (p : Packet) → PacketFits p → Needs (40000 + 2000 * listed p.body) (packet_json p)
unfolding packet_members
packet_needs p fits = record_within ((30000 + 2000 * listed p.body) ∷ 39 ∷ 123 ∷ 19 ∷ 19 ∷ 39 ∷ []) (packet_members p) (
    body_needs p.body fits.body
    and party_needs p.from fits.from
    and text_needs 20 _ (kind_short (kind_of p.body))
    and whole_needs p.request fits.request
    and whole_needs p.serial fits.serial
    and party_needs p.to fits.to
    and tt) (omega arith)

pub packets_have_short_lines : PacketsHaveShortLines
packets_have_short_lines p fits = omega (arith, print_short false (json_tokens (packet_json p)), packet_needs p fits)

-- a line that was written is read again, where it is short
pub read_again : {S E : Type 0} (p : Packet) (bytes : S → List ℕ) (r : Result S E) → IfOk r (λ s. bytes s ≡ packet_text p)
    → IfOk r (λ s. length (bytes s) ≤ max_line → packet_in (bytes s) ≡ Ok p) → OnOk r (PacketFits p) → IfOk r (λ s. listed p.body ≤ 500 → packet_in (bytes s) ≡ Ok p)
read_again p bytes (Ok s) is again fits = λ few. again (let short = packets_have_short_lines p fits in let same = ap length is in omega arith)
read_again p bytes (Err e) is again fits = tt
