use Rattle.handover.proofs.InboxListed.{not_empty}
use Rattle.handover.proofs.cdr_book.CdrBook.is_empty.Goals as goal

pub returns-in-Some-clause-no : goal.returns-in-Some-clause-no
returns-in-Some-clause-no c = rw (← c.self.view_is) (λ never is. not_empty _ _ _ c.in-Some.ensures.some.0 is)
