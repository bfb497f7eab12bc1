use Rattle.operator_planning.proofs.Billing.{bill_is}
use Rattle.operator_planning.proofs.Parts.{on_more}
use Rattle.operator_planning.proofs.reports.bills.add_bill.Goals as goal

pub returns : goal.returns
returns c =
    let posted = rw c.in_ok-cdr.ensures at c.in_ok-add_posted.ensures in
    on_more c.add_recorded.result (λ h. bill_is c.args.at c.args.to c.args.bill c.args.draft.now c.add_number.new.draft c.add_posted.new.draft c.add_recorded.new.draft
    c.in_ok-add_number.ensures posted (rw c.in_ok-cdr.ensures at h)) c.add_recorded.ensures
