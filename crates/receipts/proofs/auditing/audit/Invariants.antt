use Rattle.receipts.proofs.Marking.{Marks}
use Rattle.receipts.proofs.auditing.audit.Given as goal

abbrev pub invariant-loop-receipt : goal.invariant-loop-receipt
invariant-loop-receipt l = Marks l.history l.receipts l.receipt-index l.taken.items
