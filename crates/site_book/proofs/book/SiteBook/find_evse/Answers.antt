use Rattle.site_book.proofs.Finding.{none_then, no_first}
use Rattle.site_book.proofs.book.SiteBook.find_evse.Goals as goal

pub returns-in-None-clause-none : goal.returns-in-None-clause-none
returns-in-None-clause-none c =
    none_then c.evse_at.result (rw c.as_slice.ensures.value at c.evse_at.ensures.none) (λ none. no_first _ _ _ (rw (← c.self.view_is) at c.requires) none c.args.uid.now)
