use Rattle.std.proofs.Common.{refl, sym, subst}
use Rattle.replays.specs.declared.transcript.Source.{Source}
use Rattle.weave_runs.specs.Steps.{AddsNew, IsOfRuns}
use Rattle.weave_runs.proofs.StepLemmas.{new_setup, no_setup, on_ok}
use Rattle.weave_runs.proofs.written.push_new_setup.Goals as goal

pub returns-in-Restarted : goal.returns-in-Restarted
returns-in-Restarted c =
    let openings = c.args.openings.now in
    let is = subst (IsOfRuns openings) c.in-Restarted.is c.requires in
    on_ok c.push_other_setup.result (λ adds. subst (λ (s : Source). AddsNew openings s c.args.text.now.items c.push_other_setup.new.text.items) (sym c.in-Restarted.is)
    (new_setup openings c.in-Restarted.opening c.args.text.now.items c.push_other_setup.new.text.items is.0 is.1 adds)) c.push_other_setup.ensures

pub returns-in-Echoed : goal.returns-in-Echoed
returns-in-Echoed c = no_setup c.args.openings.now c.args.source.now _ _ c.args.text.now.items c.args.text.now.items c.in-Echoed.is refl
