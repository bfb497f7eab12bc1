use Rattle.std.proofs.Common.{refl}
use Rattle.weave_runs.proofs.OutputLemmas.{ok_more, otherwise, played}
use Rattle.weave_runs.proofs.weaving.text_of.Goals as goal

pub returns-then-is_of_one_world : goal.returns-then-is_of_one_world
returns-then-is_of_one_world c =
    let (setup, one) = c.if-is_of_one_world.ensures.yes refl in
    ok_more c.played_text.result (λ text is. played c.args.given.now c.args.histories.now c.args.transcripts.now c.args.turns.now text.items setup one is) c.played_text.ensures

pub returns-else-is_of_one_world : goal.returns-else-is_of_one_world
returns-else-is_of_one_world c =
    ok_more c.other_text.result (λ text is. otherwise c.args.given.now c.args.histories.now c.args.transcripts.now c.args.turns.now text.items (c.if-is_of_one_world.ensures.no refl) is) c.other_text.ensures
