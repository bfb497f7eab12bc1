use Rattle.std.proofs.Common.{◌≡◌, drop}
use Rattle.weave_runs.specs.Refusals.{spelled}
use Rattle.weave_runs.proofs.refusal.spelling.Given as goal

-- no node before this one is of the party
abbrev pub invariant-loop-node : goal.invariant-loop-node
invariant-loop-node l = spelled l.nodes l.party ≡ spelled (drop l.node-index l.nodes) l.party
