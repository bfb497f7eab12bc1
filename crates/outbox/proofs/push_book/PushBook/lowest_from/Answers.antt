use Rattle.outbox.proofs.Timing.{least_number, none_number}
use Rattle.outbox.proofs.push_book.PushBook.lowest_from.Goals as goal

pub returns-in-Some : goal.returns-in-Some
returns-in-Some c = rw (← c.self.view_is) (least_number _ c.args.first c.in-Some.found.0 _ c.in-Some.ensures.some)

pub returns-in-None : goal.returns-in-None
returns-in-None c = rw (← c.self.view_is) (λ n had above. absurd (none_number _ c.args.first c.in-None.ensures.none n had above))
