use Rattle.std.proofs.Common.{◌≡◌, drop}
use Rattle.node_steps.specs.Peers.{spelled}
use Rattle.node_steps.proofs.peers.spelling.Given as goal

-- no peer before this one is of the party
abbrev pub invariant-loop-peer : goal.invariant-loop-peer
invariant-loop-peer l = spelled l.peers l.party ≡ spelled (drop l.peer-index l.peers) l.party
