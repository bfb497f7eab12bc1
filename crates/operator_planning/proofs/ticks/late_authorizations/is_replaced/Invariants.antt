use Rattle.std.proofs.Common.{◌≡◌, drop}
use Rattle.operator_planning.specs.Happenings.{is_replaced}
use Rattle.operator_planning.proofs.ticks.late_authorizations.is_replaced.Given as goal

abbrev pub invariant-loop-begun : goal.invariant-loop-begun
invariant-loop-begun l = is_replaced (drop l.begun-index l.sessions) l.number ≡ is_replaced l.sessions l.number
