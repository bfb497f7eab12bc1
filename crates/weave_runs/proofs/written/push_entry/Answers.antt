use Rattle.std.proofs.Common.{refl}
use Rattle.weave_runs.proofs.StepLemmas.{came_so, delivered_so, on_ok, restarted_so}
use Rattle.weave_runs.proofs.written.push_entry.Goals as goal

pub returns-in-Some : goal.returns-in-Some
returns-in-Some c =
    on_ok c.push_delivery.result (λ adds. delivered_so c.args.given.now c.args.histories.now c.args.opening.now c.args.entry.now c.nodes.result.now c.party-party.result.now c.nodes.ensures c.party-party.ensures
    _ _ c.args.text.now.items c.push_delivery.new.text.items c.in-Some.ensures.some c.in-Some.ensures.asked adds) c.push_delivery.ensures

pub returns-in-Some-line : goal.returns-in-Some-line
returns-in-Some-line c =
    on_ok c.push_line.result (λ adds. came_so c.args.given.now c.args.histories.now c.args.opening.now c.args.entry.now c.node_lines_are_lines.ensures c.args.source.now _ _ c.args.text.now.items
    c.push_line.new.text.items c.in-Some-line.ensures.some c.requires.source c.in-None.ensures.none adds) c.push_line.ensures

pub returns-in-None-line : goal.returns-in-None-line
returns-in-None-line c =
    on_ok c.push_restart.result (λ adds. restarted_so c.args.given.now c.args.histories.now c.args.opening.now c.args.entry.now c.args.opening.now.setup c.party-party.result.now refl c.party-party.ensures
    c.args.source.now _ c.args.text.now.items c.push_restart.new.text.items c.in-None-line.ensures.none c.requires.source adds) c.push_restart.ensures
