use Rattle.std.proofs.lemmas.Result.{MatchResult-weaker}
use Rattle.weave.proofs.Telling.{told_excludes}
use Rattle.weave.proofs.weave.Goals as goal

pub returns-clause-complete : goal.returns-clause-complete
returns-clause-complete c = MatchResult-weaker c.woven_events.result c.woven_events.ensures.cause (λ events h. h) (λ f told. told_excludes c.args.histories.now c.requires.apart c.requires.numbered f told)
