use Rattle.std.proofs.Common.{◌<◌, ◌∙◌, List, [], ap, get_or, length, subst, sym}
use Rattle.std.proofs.lemmas.Option.{slice_get-get_or, slice_get_within}
use Rattle.std.specs.Prelude.{slice_get}
use Rattle.histories.proofs.Lists.{is_in}
use Rattle.replays.specs.declared.transcript.Opening.{Opening}
use Rattle.replays.specs.declared.transcript.Source.{Source}
use Rattle.replays.specs.declared.transcript.Source.TheVariants.{Echoed}
use Rattle.weave.proofs.Places.{got_by}
use Rattle.weave_runs.specs.Steps.{AddsNew, IsOfRuns}
use Rattle.weave_runs.proofs.StepLemmas.{of_runs, on_ok, setups_add, sources_within}
use Rattle.weave_runs.proofs.written.push_setups.Goals as goal

pub push_new_setup-requires : goal.push_new_setup-requires
push_new_setup-requires c =
    let told = c.args.transcripts.now in
    let t = c.args.turn in
    let u = c.index-transcripts-turn.result in
    let (w, names) = c.requires.named in
    let here = got_by told t.history u (slice_get_within told t.history names.teller_of names.here) c.index-transcripts-turn.is in
    let inside = is_in told t.history u here in
    let from = get_or c.sources.result.now t.entry (Echoed 0 (record { number = 0; bytes = record { ref_ptr = (0, 0); now = [] } })) in
    let within = subst (λ (l : List Source). t.entry < length l) (sym c.sources.ensures) (sources_within told t u here w names) in
    let comes = ap (λ (l : List Source). slice_get l t.entry) (sym c.sources.ensures)
    ∙ slice_get-get_or c.sources.result.now t.entry (Echoed 0 (record { number = 0; bytes = record { ref_ptr = (0, 0); now = [] } })) within in
    subst (λ (os : List Opening). IsOfRuns os from) (sym c.openings.ensures) (of_runs told t u here (c.requires.sourced u inside) (c.requires.told.each u inside) from comes)

pub returns : goal.returns
returns c =
    let told = c.args.transcripts.now in
    let t = c.args.turn in
    let u = c.index-transcripts-turn.result in
    let (w, names) = c.requires.named in
    let here = got_by told t.history u (slice_get_within told t.history names.teller_of names.here) c.index-transcripts-turn.is in
    let from = get_or c.sources.result.now t.entry (Echoed 0 (record { number = 0; bytes = record { ref_ptr = (0, 0); now = [] } })) in
    let within = subst (λ (l : List Source). t.entry < length l) (sym c.sources.ensures) (sources_within told t u here w names) in
    let comes = ap (λ (l : List Source). slice_get l t.entry) (sym c.sources.ensures)
    ∙ slice_get-get_or c.sources.result.now t.entry (Echoed 0 (record { number = 0; bytes = record { ref_ptr = (0, 0); now = [] } })) within in
    on_ok c.push_new_setup.result (λ adds. setups_add told t u here from comes c.args.text.now.items c.push_first_setup.new.text.items c.push_new_setup.new.text.items c.in_ok-push_first_setup.ensures
    (subst (λ (os : List Opening). AddsNew os from c.push_first_setup.new.text.items c.push_new_setup.new.text.items) c.openings.ensures adds)) c.push_new_setup.ensures
