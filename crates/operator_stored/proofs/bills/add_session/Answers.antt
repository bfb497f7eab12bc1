use Rattle.operator_stored.proofs.Billing.{end_added}
use Rattle.operator_stored.proofs.bills.add_session.Goals as goal

pub returns : goal.returns
returns c = end_added c.args.ended.now c.insert.new.self c.args.session.now c.if-not-is_completed.ensures c.in_ok-insert.ensures.after
