use Rattle.outbox.proofs.Upper.{none_above, one_above}
use Rattle.outbox.proofs.push_book.PushBook.is_up_to.Goals as goal

pub returns-in-Some : goal.returns-in-Some
returns-in-Some c = rw (← c.self.view_is) (λ no. absurd (cc), λ all. absurd (one_above _ c.args.last c.in-Some.field-0.0 _ c.in-Some.ensures.some all))

pub returns-in-None : goal.returns-in-None
returns-in-None c = rw (← c.self.view_is) (λ ok. none_above _ c.args.last c.in-None.ensures.none, λ all. cc)
