use Rattle.node_harness.specs.Settled.{AreSettled, script_of}
use Rattle.node_harness.proofs.running.settle_each.Given as goal

abbrev pub invariant-loop-i : goal.invariant-loop-i
invariant-loop-i l = AreSettled l.setup (script_of l.script.events.items) l.nodes l.i
