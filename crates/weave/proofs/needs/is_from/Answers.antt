use Rattle.std.proofs.Common.{arith}
use Rattle.histories.proofs.Lists.{got_within, place_in}
use Rattle.weave.proofs.needs.is_from.Goals as goal

pub returns-clause-no : goal.returns-clause-no
returns-clause-no c = λ none from.
    let (party, within, same) = from in
    let (k, at) = place_in c.args.given.now party within in
    let inside = got_within c.args.given.now k party at in
    c.loop-party.invariant k party (omega (arith, inside)) at same
