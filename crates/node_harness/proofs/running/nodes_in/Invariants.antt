use Rattle.std.specs.Prelude.{All}
use Rattle.node_harness.specs.Opened.{RanOf}
use Rattle.node_harness.proofs.running.nodes_in.Given as goal

abbrev pub invariant-loop-station : goal.invariant-loop-station
invariant-loop-station g l = All (RanOf g.S.OfSetup.nodes) l.nodes.items
