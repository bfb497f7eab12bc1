use Rattle.ocpi_text.specs.Text.{key}
use Rattle.world.proofs.Names.{NoneBefore}
use Rattle.world.proofs.finding.find.Given as goal

-- no key before this one is the party's
abbrev pub invariant-loop-i : goal.invariant-loop-i
invariant-loop-i l = NoneBefore l.names (key l.party) l.i
