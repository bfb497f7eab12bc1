use Rattle.node_harness.proofs.InOrder.{IsFound}
use Rattle.node_harness.proofs.settling.are_in_order.Given as goal

abbrev pub invariant-loop-entry : goal.invariant-loop-entry
invariant-loop-entry l = IsFound l.history l.script l.entry-index l.rest
