use Rattle.node_keepers.proofs.KeeperLemmas.{NoneBefore}
use Rattle.node_keepers.proofs.keeping.find.Given as goal

-- no keeper before this one is the party's
abbrev pub invariant-loop-i : goal.invariant-loop-i
invariant-loop-i g l = NoneBefore l.kept l.party l.i
