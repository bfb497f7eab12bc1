use Rattle.std.proofs.Common.{map, take}
use Rattle.ocpi_types.specs.Apart.{DifferFrom}
use Rattle.ocpi_types.proofs.apart.differ_from.Given as goal

abbrev pub invariant-loop-i : goal.invariant-loop-i
invariant-loop-i g l = DifferFrom (map g.T.Identified.id_key l.earlier) (map g.T.Identified.id_key (take l.i l.values))
