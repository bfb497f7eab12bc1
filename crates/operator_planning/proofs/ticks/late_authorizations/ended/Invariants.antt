use Rattle.std.proofs.Common.{◌≡◌, map, take}
use Rattle.authorization_book.specs.declared.waiting.Waiting.TheVariants.{Ends}
use Rattle.operator_planning.proofs.ticks.late_authorizations.ended.Given as goal

abbrev pub invariant-loop-number : goal.invariant-loop-number
invariant-loop-number l = l.waits.items ≡ map Ends (take l.number-index l.late)
