use Rattle.handover.proofs.Totals.{added, i128_sum}
use Rattle.handover.proofs.sums.add_to.Goals as goal

pub returns-clause-sums : goal.returns-clause-sums
returns-clause-sums c =
    rw c.put.ensures.shown (λ a. added _ _ a _ _ (i128_sum _ c.sum_in.result c.args.amount c.from.result c.sum_in.ensures c.from.ensures c.ranges.amount c.requires.bound))
