use Rattle.std.proofs.Common.{◌<◌, ◌∙◌, List, [], ap, length, subst, sym}
use Rattle.replays.specs.declared.transcript.Source.TheVariants.{Echoed}
use Rattle.weave_runs.proofs.StepLemmas.{as_read, on_ok, turn_adds}
use Rattle.weave_runs.proofs.written.push_turn.Goals as goal

pub push_entry-requires-clause-member : goal.push_entry-requires-clause-member
push_entry-requires-clause-member c =
    let at = as_read c.args.transcripts.now c.args.turn c.index-transcripts-turn.result c.requires.named c.requires.told c.index-transcripts-turn.is c.sources.ensures c.openings.ensures c.entries.ensures
    (Echoed 0 (record { number = 0; bytes = record { ref_ptr = (0, 0); now = [] } })) c.opening.ensures c.index-openings-opening.is c.index-entries-turn.is in
    (c.requires.told.each c.index-transcripts-turn.result at.inside).members c.index-openings-opening.result at.opened

pub push_entry-requires-clause-source : goal.push_entry-requires-clause-source
push_entry-requires-clause-source c =
    let at = as_read c.args.transcripts.now c.args.turn c.index-transcripts-turn.result c.requires.named c.requires.told c.index-transcripts-turn.is c.sources.ensures c.openings.ensures c.entries.ensures
    (Echoed 0 (record { number = 0; bytes = record { ref_ptr = (0, 0); now = [] } })) c.opening.ensures c.index-openings-opening.is c.index-entries-turn.is in
    (c.requires.sourced c.index-transcripts-turn.result at.inside).each c.args.turn.entry c.index-entries-turn.result _ c.index-openings-opening.result at.stands at.comes at.of_run

pub returns : goal.returns
returns c =
    let at = as_read c.args.transcripts.now c.args.turn c.index-transcripts-turn.result c.requires.named c.requires.told c.index-transcripts-turn.is c.sources.ensures c.openings.ensures c.entries.ensures
    (Echoed 0 (record { number = 0; bytes = record { ref_ptr = (0, 0); now = [] } })) c.opening.ensures c.index-openings-opening.is c.index-entries-turn.is in
    on_ok c.push_entry.result (λ adds. turn_adds c.args.transcripts.now c.args.turn c.index-transcripts-turn.result at.here c.args.given.now c.args.histories.now c.index-entries-turn.result at.stands _ at.comes
    c.index-openings-opening.result at.of_run c.args.text.now.items c.push_entry.new.text.items adds) c.push_entry.ensures
