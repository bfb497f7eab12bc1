use Rattle.std.proofs.Common.{◌≡◌, ◌-◌, ◌≤◌, length, take, true}
use Rattle.ocpi_text.specs.Text.{is_ascii_text}
use Rattle.ocpi_text.proofs.characters.is_printable_text.Given as goal

abbrev pub invariant-eights : goal.invariant-eights
invariant-eights l = (l.at ≤ length l.bytes) × (is_ascii_text (take l.at l.bytes) ≡ true)

abbrev pub decreases-eights : goal.decreases-eights
decreases-eights l = length l.bytes - l.at
