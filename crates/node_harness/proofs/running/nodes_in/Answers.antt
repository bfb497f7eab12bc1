use Rattle.std.proofs.Common.{All, sym, subst}
use Rattle.std.proofs.lemmas.List.Elements.{All-push}
use Rattle.node_harness.specs.Opened.{RanOf}
use Rattle.node_harness.proofs.running.nodes_in.Goals as goal

-- src/running.rt:189:5
pub loop-station-preserved : goal.loop-station-preserved
loop-station-preserved g c =
    subst (All (RanOf g.S.OfSetup.nodes)) (sym c.in_ok-push.ensures.items)
    (All-push (RanOf g.S.OfSetup.nodes) c.loop-station.nodes.items c.into_node.result c.loop-station.invariant c.into_node.ensures.of_setup)
