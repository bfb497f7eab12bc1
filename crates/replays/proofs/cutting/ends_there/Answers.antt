use Rattle.replays.proofs.CutLemmas.{feed_ends}
use Rattle.replays.proofs.cutting.ends_there.Goals as goal

pub returns-then-first-eq10-clause-yes : goal.returns-then-first-eq10-clause-yes
returns-then-first-eq10-clause-yes c = λ is. feed_ends c.in-Some.first.now c.in-Some.field-0-1.now c.args.text.now c.in-Some.ensures.cases.0 c.if-first-eq10.true
