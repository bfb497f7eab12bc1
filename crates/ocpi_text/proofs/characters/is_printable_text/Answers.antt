use Rattle.std.proofs.Common.{◌≡◌, ◌∙◌, ◌-◌, [], true, false, sym, ap, arith, refl, length, take, drop}
use Rattle.std.proofs.lemmas.List.{take_all, length-drop}
use Rattle.ocpi_text.specs.Text.{is_ascii_text}
use Rattle.ocpi_text.proofs.EightBytes.{part_fails, part_further, rest_decides}
use Rattle.ocpi_text.proofs.characters.is_printable_text.Goals as goal

nothing_yet : is_ascii_text [] ≡ true
unfolding is_ascii_text
nothing_yet = refl

pub eights-init : goal.eights-init
eights-init c = (omega arith, nothing_yet)

pub returns-then-not-are_eight_printable : goal.returns-then-not-are_eight_printable
returns-then-not-are_eight_printable c =
    let bytes = c.as_bytes-bytes.result.now in
    let fails : is_ascii_text (take 8 (drop c.eights.at bytes)) ≡ false = cc c.are_eight_printable.ensures in
    sym (part_fails c.eights.at 8 bytes fails) ∙ ap is_ascii_text c.as_bytes-bytes.ensures.value

pub eights-preserved : goal.eights-preserved
eights-preserved c =
    let bytes = c.as_bytes-bytes.result.now in
    let part : is_ascii_text (take 8 (drop c.eights.at bytes)) ≡ true = cc c.are_eight_printable.ensures in
    (omega arith, part_further c.eights.at 8 bytes c.eights.invariant.1 part)

pub returns : goal.returns
returns c =
    let bytes = c.as_bytes-bytes.result.now in
    let k = length bytes - 8 in
    let all : take 8 (drop k bytes) ≡ drop k bytes = take_all 8 (drop k bytes) (omega (arith, length-drop k bytes)) in
    c.are_eight_printable-2.ensures ∙ ap is_ascii_text all ∙ sym (rest_decides k c.eights.at bytes (omega arith) c.eights.invariant.1) ∙ ap is_ascii_text c.as_bytes-bytes.ensures.value
