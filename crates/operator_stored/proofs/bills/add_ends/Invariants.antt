use Rattle.operator_stored.specs.Bills.{AreThose, EndOf, InSet}
use Rattle.operator_stored.proofs.Billing.{Below}
use Rattle.operator_stored.proofs.bills.add_ends.Given as goal

abbrev pub invariant-loop-row : goal.invariant-loop-row
invariant-loop-row l = AreThose (InSet l.ended) (Below EndOf l.rows l.row-index)
