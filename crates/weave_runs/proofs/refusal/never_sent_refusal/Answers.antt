use Rattle.std.proofs.Common.{List, ◌∙◌, ap}
use Rattle.ocpi_types.specs.declared.setup.Node.{Node}
use Rattle.weave_runs.proofs.OutputLemmas.{ok_more}
use Rattle.weave_runs.specs.Refusals.{ComesBy, never_sent_line, spelled}
use Rattle.weave_runs.proofs.refusal.never_sent_refusal.Goals as goal

pub returns-in_default : goal.returns-in_default
returns-in_default c = absurd (c.in_default.ensures.none c.requires.packet c.requires.delivers)

pub returns-in-Some-place_of : goal.returns-in-Some-place_of
returns-in-Some-place_of c =
    let place = c.in-Some-place_of.place in
    let comes : ComesBy c.args.files.now c.args.transcripts.now c.args.came =
    record { packet = c.in-Some.packet.now; delivers = c.in-Some.ensures.some; name = place.name.now; line = place.line; is_line = c.in-Some-place_of.ensures.some } in
    ok_more c.never_sent_line.result (λ s is. (
      comes,
      is ∙ ap (λ (ns : List Node). never_sent_line (spelled ns c.in-Some.packet.now.from) c.in-Some.packet.now.serial place.name.now place.line) c.nodes_at-nodes.ensures,
    )) c.never_sent_line.ensures

pub returns-in-None : goal.returns-in-None
returns-in-None c = absurd (c.in-None.ensures.none c.requires.name c.requires.line c.requires.is_line)
