use Rattle.std.proofs.Common.{refl, arith}
use Rattle.std.proofs.lemmas.Result.{MatchResult-weaker}
use Rattle.weave.proofs.Places.{got_by}
use Rattle.weave.proofs.events.push_turn.Goals as goal

pub push_entry-requires : goal.push_entry-requires
push_entry-requires c = c.requires.entry c.index-histories-turn.result (got_by c.args.histories.now c.args.turn.history c.index-histories-turn.result (omega arith) c.index-histories-turn.is)

pub returns : goal.returns
returns c =
    let here = got_by c.args.histories.now c.args.turn.history c.index-histories-turn.result (omega arith) c.index-histories-turn.is in
    MatchResult-weaker c.push_entry.result c.push_entry.ensures (λ u h. let (e, got, is) = h in (record { party = c.index-histories-turn.result.party; entry = e }, record { history = c.index-histories-turn.result; here = here; party = refl; entry = got }, is))
    (λ e h. h)
