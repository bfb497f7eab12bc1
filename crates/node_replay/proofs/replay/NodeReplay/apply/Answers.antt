use Rattle.node_core.specs.States.{state_of}
use Rattle.node_replay.proofs.Staying.{goes_on}
use Rattle.node_replay.proofs.replay.NodeReplay.apply.Goals as goal

pub invariant_of-self : goal.invariant_of-self
invariant_of-self c =
    goes_on c.nodes_can_start_again.ensures (state_of c.self.inside.node) (state_of c.enter.new.node) c.args.entries.now.items c.enter.new.entries.items c.args.event c.enter.result
    c.self.invariant c.enter.ensures.ok c.enter.ensures.state
