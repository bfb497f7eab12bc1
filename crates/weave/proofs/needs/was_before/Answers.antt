use Rattle.std.proofs.Common.{arith}
use Rattle.histories.proofs.Lists.{got_within, place_in}
use Rattle.weave.proofs.needs.was_before.Goals as goal

pub returns-clause-no : goal.returns-clause-no
returns-clause-no c = λ none was.
    let (k, at) = place_in c.args.histories.now was.sender was.among in
    let inside = got_within c.args.histories.now k was.sender at in
    c.loop-history.invariant k was.sender (omega (arith, inside)) at was.is
