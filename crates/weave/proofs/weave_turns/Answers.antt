use Rattle.std.proofs.lemmas.Result.{MatchResult-weaker}
use Rattle.weave.proofs.Telling.{told_excludes}
use Rattle.weave.proofs.weave_turns.Goals as goal

pub returns-clause-complete : goal.returns-clause-complete
returns-clause-complete c = MatchResult-weaker c.woven_turns.result c.woven_turns.ensures.cause (λ turns h. h) (λ f told. told_excludes c.args.histories.now c.requires.apart c.requires.numbered f told)
