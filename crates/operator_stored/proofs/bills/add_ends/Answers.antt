use Rattle.operator_stored.specs.Bills.{EndOf, InSet}
use Rattle.operator_stored.proofs.Billing.{ended_by, here_of, more_below, none_below, none_in}
use Rattle.operator_stored.proofs.bills.add_ends.Goals as goal

pub loop-row-init : goal.loop-row-init
loop-row-init c = none_below EndOf c.args.rows.now (InSet c.args.ended.now) (none_in c.args.ended.now c.requires)

pub loop-row-preserved : goal.loop-row-preserved
loop-row-preserved c =
    let at = c.loop-row in
    let here = here_of c.args.rows.now at.row-index c.row-item.result c.loop-row-test.true c.row-item.is in
    more_below EndOf c.args.rows.now at.row-index c.row-item.result here (InSet at.ended) at.invariant (InSet c.add_end.new.ended) c.in_ok-add_end.ensures

pub returns : goal.returns
returns c = ended_by c.args.rows.now c.loop-row.row-index c.loop-row.ended c.loop-row-test.false c.loop-row.invariant
