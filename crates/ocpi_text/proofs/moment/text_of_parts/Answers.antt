use Rattle.std.proofs.Common.{arith, ap, ◌∙◌}
use Rattle.ocpi_text.specs.Cells.{text_of}
use Rattle.ocpi_text.specs.Moment.{parts_text}
use Rattle.ocpi_text.proofs.Padding.{text_of_padded}
use Rattle.ocpi_text.proofs.MomentText.{parts_cells}
use Rattle.ocpi_text.proofs.moment.text_of_parts.Goals as goal

pub of_padded-requires : goal.of_padded-requires
of_padded-requires c =
    let r = c.requires in
    (omega arith, (omega arith, rw c.cells_of_parts.ensures (parts_cells c.args.date c.args.second c.args.millis r.year r.month r.day r.second r.millis).1))

pub returns : goal.returns
returns c =
    let r = c.requires in
    let printable = (parts_cells c.args.date c.args.second c.args.millis r.year r.month r.day r.second r.millis).0 in
    c.of_padded.ensures ∙ ap text_of c.cells_of_parts.ensures ∙ text_of_padded 24 (parts_text c.args.date c.args.second c.args.millis) printable
