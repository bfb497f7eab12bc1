use Rattle.std.proofs.Common.{◌+◌, refl, ap}
use Rattle.replays.proofs.RunLemmas.{next_run, not_empty}
use Rattle.replays.proofs.cutting.Runs.next.Goals as goal

pub returns-clause-some : goal.returns-clause-some
returns-clause-some c =
    let front = c.behind_feeds-front in
    let after = c.behind_feeds-after in
    next_run _ _ _ front.result.0 after.result.0 front.result.1.now after.result.1.now front.ensures.is front.ensures.anew (not_empty front.result.1.now c.is_empty.result c.is_empty.ensures c.if-is_empty.false)
    c.split_run.ensures.is c.split_run.ensures.further c.split_run.ensures.ends after.ensures.is after.ensures.anew refl refl (ap (λ k. (c.args.self.now.number + front.result.0) + k) c.feeds_in.ensures.is)
