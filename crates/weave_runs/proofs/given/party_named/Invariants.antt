use Rattle.std.proofs.Common.{take}
use Rattle.weave_runs.specs.Parties.{HasNoNode}
use Rattle.weave_runs.proofs.given.party_named.Given as goal

-- no node before this one is of the party
abbrev pub invariant-loop-node : goal.invariant-loop-node
invariant-loop-node l = HasNoNode (take l.node-index l.nodes) l.party
