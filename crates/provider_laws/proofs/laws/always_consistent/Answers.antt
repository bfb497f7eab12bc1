use Rattle.provider_laws.proofs.standing.AtAllTimes.{consistent_over_runs}
use Rattle.provider_laws.proofs.laws.always_consistent.Goals as goal

pub returns : goal.returns
returns c = consistent_over_runs (record {
  rows = c.stays_consistent.ensures;
  packets = c.packets_may_follow.ensures;
  orders = c.orders_may_follow.ensures;
  tokens = c.tokens_may_follow.ensures;
  ticks = c.ticks_may_follow.ensures;
})
