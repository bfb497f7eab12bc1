use Rattle.std.proofs.Common.{◌≡◌, ◌++◌, drop}
use Rattle.operator_planning.specs.Happenings.{unreplaced}
use Rattle.operator_planning.proofs.ticks.late_authorizations.unreplaced.Given as goal

-- with those that are left of the rest, all are
abbrev pub invariant-loop-number : goal.invariant-loop-number
invariant-loop-number l = l.left.items ++ unreplaced l.sessions (drop l.number-index l.numbers) ≡ unreplaced l.sessions l.numbers
