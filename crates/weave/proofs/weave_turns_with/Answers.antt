use Rattle.std.proofs.lemmas.Result.{MatchResult-weaker}
use Rattle.weave.proofs.Telling.{turns_exclude}
use Rattle.weave.proofs.weave_turns_with.Goals as goal

pub returns-clause-complete : goal.returns-clause-complete
returns-clause-complete c =
    MatchResult-weaker c.found_turns.result c.found_turns.ensures.cause (λ turns h. h) (λ f told. turns_exclude c.args.given.now c.args.histories.now c.requires.apart c.requires.numbered f told)
