use Rattle.std.proofs.Common.{subst}
use Rattle.row_table.proofs.SortLemmas.{IsBelow, sorted_push}
use Rattle.row_table.proofs.reading.follows.Goals as goal

pub returns-in-Some : goal.returns-in-Some
returns-in-Some c test sorted =
    sorted_push c.args.all.now c.args.next.now sorted (subst (λ o. IsBelow o c.args.next.now) c.in-Some.ensures.value (c.is_before.ensures.0 test))
