use Rattle.std.proofs.Common.{List, ◌∙◌, ap}
use Rattle.ocpi_types.specs.declared.setup.Node.{Node}
use Rattle.weave_runs.proofs.OutputLemmas.{ok_more}
use Rattle.weave_runs.specs.Refusals.{ComesBy, differs_line, spelled}
use Rattle.weave_runs.proofs.refusal.differs_refusal.Goals as goal

pub returns-in_default : goal.returns-in_default
returns-in_default c = absurd (c.in_default.ensures.none c.requires.0.packet c.requires.0.delivers)

pub returns-in_default-place_of : goal.returns-in_default-place_of
returns-in_default-place_of c = absurd (c.in_default-place_of.ensures.none c.requires.1.0 c.requires.1.1 c.requires.1.2)

pub returns-in-Some-place_of-2 : goal.returns-in-Some-place_of-2
returns-in-Some-place_of-2 c =
    let left = c.in-Some-place_of.left in
    let right = c.in-Some-place_of-2.right in
    let comes : ComesBy c.args.files.now c.args.transcripts.now c.args.came =
    record { packet = c.in-Some.packet.now; delivers = c.in-Some.ensures.some; name = right.name.now; line = right.line; is_line = c.in-Some-place_of-2.ensures.some } in
    ok_more c.differs_line.result (λ s is. (
      comes,
      (left.name.now, left.line, c.in-Some-place_of.ensures.some),
      is ∙ ap (λ (ns : List Node). differs_line (spelled ns c.in-Some.packet.now.from) c.in-Some.packet.now.serial left.name.now left.line right.name.now right.line) c.nodes_at-nodes.ensures,
    )) c.differs_line.ensures

pub returns-in-None : goal.returns-in-None
returns-in-None c = absurd (c.in-None.ensures.none c.requires.0.name c.requires.0.line c.requires.0.is_line)
