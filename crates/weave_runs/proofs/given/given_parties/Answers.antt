use Rattle.std.proofs.Common.{◌≡◌, ◌++◌, ◌∷◌, [], arith, rules}
use Rattle.std.proofs.lemmas.Option.{slice_get-get_or}
use Rattle.weave_runs.proofs.GivenLemmas.{given_more}
use Rattle.weave_runs.proofs.given.given_parties.Goals as goal

pub loop-word-preserved : goal.loop-word-preserved
loop-word-preserved c =
    let before = c.loop-word.parties.items in
    let items : c.push.new.self.items ≡ before ++ c.in-Ok.party ∷ [] = search rules in
    given_more c.args.transcripts.now c.args.words.now c.loop-word.word-index _ before c.push.new.self.items c.in-Ok.party
    (slice_get-get_or c.args.words.now c.loop-word.word-index _ (omega arith)) c.loop-word.invariant c.in-Ok.ensures.given items
