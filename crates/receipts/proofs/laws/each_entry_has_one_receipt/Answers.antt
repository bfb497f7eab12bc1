use Rattle.receipts.proofs.Counting.{each_entry}
use Rattle.receipts.proofs.laws.each_entry_has_one_receipt.Goals as goal

pub returns : goal.returns
returns c = each_entry
